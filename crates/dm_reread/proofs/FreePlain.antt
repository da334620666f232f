-- The parts that hold no types are read alike wherever their list ends.
use Rattle.std.proofs.Common.{◌≡◌, ℕ, ◌+◌, ◌||◌, [], ◌∷◌, codes, Option, Some, None, refl}
use Rattle.dm_stream.specs.declared.tokens.Delim.{Delim}
use Rattle.dm_stream.specs.declared.tokens.Delim.TheVariants.{Bracket, Brace}
use Rattle.dm_stream.specs.Trees.{Trees}
use Rattle.dm_ast.specs.Keywords.{is_name}
use Rattle.dm_ast.specs.Spelling.{Where, sees, sees_word, sees_colons, sees_literal, sees_group}
use Rattle.dm_ast.specs.TypeGrammar.{is_truth}
use Rattle.dm_ast.specs.Readers.{Parser, read_colons, read_arrow, read_colon, read_equals, read_group, read_rest}
use Rattle.dm_ast.specs.PlainReaders.{plain_path_of, read_leading, read_plain, with_delim, delim_of, kept_by, read_kept, read_inside, attribute_of, read_attribute, read_attributes, read_angles, punctuated, read_lifetimes, read_for, literal_of, truth_of, block_of, name_of, sees_truth, read_constant}
use Rattle.dm_reread.specs.TypeLeaves.{answer_of}
use Rattle.dm_reread.proofs.FreeSteps.{Free, ending, answer_mapped, same_gives, same_and, same_next, same_till, same_either, free_ident, free_any, free_lifetime, free_literal, free_punct, free_word, free_pair, free_lone, free_group, same_flag, same_perhaps, same_list, same_repeated, same_chain, same_ranged}

-- ---- pairs of puncts, and puncts that stand alone

pub free_colons : Free read_colons
free_colons = free_pair 58 58

pub free_arrow : Free read_arrow
free_arrow = free_pair 45 62

pub free_colon : Free read_colon
free_colon = free_lone 58 (58 ∷ [])

pub free_equals : Free read_equals
free_equals = free_lone 61 (61 ∷ 62 ∷ [])

-- ---- plain paths

pub free_leading : Free read_leading
free_leading l m n = same_flag sees_colons (free_colons l m n)

pub free_plain : Free read_plain
free_plain l m n =
    same_gives
    (same_and (free_leading l m n) (same_chain (ending l m) (ending l n) sees_colons (free_colons l m n) (free_any l m n))) plain_path_of

-- ---- groups of any delimiter, which are not read

answer_kept : (l m n : ℕ) (ts : Trees) (found : Option Delim) →
    answer_of (kept_by (ending l m) ts found) ≡ answer_of (kept_by (ending l n) ts found)
answer_kept l m n ts None = refl
answer_kept l m n ts (Some d) =
    answer_mapped (with_delim d) (read_group d read_rest (ending l m) ts) (read_group d read_rest (ending l n) ts)
    ((free_group d read_rest l m n).at ts)

pub free_kept : Free read_kept
free_kept l m n = record { at = λ ts. answer_kept l m n ts (delim_of ts) }

-- ---- attributes

free_attribute : Free read_attribute
free_attribute l m n = same_gives (same_ranged (same_next (free_punct 35 l m n) (free_group Bracket read_inside l m n))) attribute_of

pub free_attributes : Free read_attributes
free_attributes l m n = same_repeated (ending l m) (ending l n) (sees 35) [] (free_attribute l m n)

-- ---- `<..>` and `for<..>`

pub free_angles : {A : Type 0} (inner : Where → Parser A) → Free inner → Free (read_angles inner)
free_angles inner h l m n = same_next (free_punct 60 l m n) (same_till (h (l + 1) m n) (free_punct 62 l m n))

free_lifetimes : Free read_lifetimes
free_lifetimes l m n = same_gives (same_list l m n 44 (sees 62) (free_lifetime l m n)) punctuated

pub free_for : Free read_for
free_for l m n =
    same_perhaps (sees_word (codes "for")) (same_next (free_word (codes "for") l m n) (free_angles read_lifetimes free_lifetimes l m n))

-- ---- constants

pub free_constant : Free read_constant
free_constant l m n =
    same_either (λ ts. sees 45 ts || sees_literal ts)
    (same_gives (same_and (same_flag (sees 45) (free_punct 45 l m n)) (free_literal l m n)) literal_of)
    (same_either (sees_group Brace) (same_gives (free_group Brace read_rest l m n) block_of)
    (same_either sees_truth (same_gives (free_ident is_truth l m n) truth_of) (same_gives (free_ident is_name l m n) name_of)))
