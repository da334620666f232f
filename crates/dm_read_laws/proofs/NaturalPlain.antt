-- The parts that hold no types are read the same of the same tokens, ranges aside.
use Rattle.std.proofs.Common.{◌≡◌, ℕ, ◌+◌, Bool, true, false, cond, ◌&&◌, ◌||◌, nat_eq, [], ◌∷◌, map, codes, Option, option_map, Some, None, refl, ap, ◌∙◌}
use Rattle.dm_stream.specs.declared.seq.Punctuated.{Punctuated}
use Rattle.dm_stream.specs.declared.tokens.Delim.{Delim}
use Rattle.dm_stream.specs.declared.tokens.Delim.TheVariants.{Bracket, Brace}
use Rattle.dm_stream.specs.declared.tokens.Lifetime.{Lifetime}
use Rattle.dm_stream.specs.declared.tokens.Token.TheVariants as t
use Rattle.dm_stream.specs.Trees.{Trees, token, group}
use Rattle.dm_lexer.specs.Written.{unplaced}
use Rattle.dm_ast.specs.declared.plain.AttrArgs.TheVariants as args
use Rattle.dm_ast.specs.Keywords.{is_name}
use Rattle.dm_ast.specs.Spelling.{Where, is_joint, at_end, sees, sees_word, sees_colons, sees_equals, sees_literal, sees_group}
use Rattle.dm_ast.specs.TypeGrammar.{is_truth, behind_idents, behind_colons, behind_first, behind_plain, is_call, sees_macro}
use Rattle.dm_ast.specs.Readers.{Parser, read_colons, read_arrow, read_colon, read_equals, read_rest}
use Rattle.dm_ast.specs.PlainReaders.{plain_path_of, read_leading, read_plain, with_delim, delim_of, kept_by, read_kept, opaque_of, read_opaque, list_args, value_args, read_args, read_inside, attribute_of, read_attribute, read_attributes, read_angles, punctuated, read_lifetimes, read_for, literal_of, truth_of, block_of, name_of, sees_truth, read_constant}
use Rattle.dm_type_eq.specs.Unplaced.{unplaced_args, unplaced_attribute, unplaced_constant, unplaced_lifetimes, unplaced_opaque, unplaced_plain, unplaced_stream}
use Rattle.dm_reread.specs.Bare.{bare_punctuated}
use Rattle.dm_reread.specs.BareReading.{bare_answer}
use Rattle.dm_reread.specs.TypeLeaves.{answer_of}
use Rattle.dm_reread.proofs.FreeSteps.{ending}
use Rattle.dm_read_laws.proofs.NaturalSteps.{Natural, Blind, same, both, alike_by, alike_nothing, alike_refused, alike_gives, alike_and, alike_next, alike_till, alike_either, at_end_blind, sees_blind, pair_blind, lone_blind, word_blind, literal_blind, group_blind, or_blind, natural_ident, natural_any, natural_lifetime, natural_literal, natural_punct, natural_word, natural_pair, natural_lone, natural_group, alike_flag, alike_perhaps, natural_rest, alike_list, alike_repeated, alike_chain, alike_ranged}

-- ---- tests

pub colons_blind : Blind sees_colons
colons_blind = pair_blind 58 58

pub equals_blind : Blind sees_equals
equals_blind = lone_blind 61 (61 ∷ 62 ∷ [])

pub truth_blind : Blind sees_truth
truth_blind (token (t.Ident i) rest) = refl
truth_blind _ = refl

-- what stands behind a plain path
unplaced_cond : (b : Bool) (ts us : Trees) → cond b (unplaced ts) (unplaced us) ≡ unplaced (cond b ts us)
unplaced_cond true ts us = refl
unplaced_cond false ts us = refl

behind_idents_bare : (ts : Trees) → behind_idents (unplaced ts) ≡ unplaced (behind_idents ts)
behind_idents_bare (token (t.Punct a) (token (t.Punct b) (token (t.Ident i) rest))) =
    ap
    (λ us. cond ((nat_eq a.ch 58 && is_joint a.spacing) && nat_eq b.ch 58) us
    (unplaced (token (t.Punct a) (token (t.Punct b) (token (t.Ident i) rest)))))
    (behind_idents_bare rest) ∙
    unplaced_cond ((nat_eq a.ch 58 && is_joint a.spacing) && nat_eq b.ch 58) (behind_idents rest)
    (token (t.Punct a) (token (t.Punct b) (token (t.Ident i) rest)))
behind_idents_bare _ = refl

pub behind_colons_bare : (ts : Trees) → behind_colons (unplaced ts) ≡ unplaced (behind_colons ts)
behind_colons_bare (token (t.Punct a) (token (t.Punct b) rest)) =
    unplaced_cond ((nat_eq a.ch 58 && is_joint a.spacing) && nat_eq b.ch 58) rest (token (t.Punct a) (token (t.Punct b) rest))
behind_colons_bare _ = refl

behind_first_bare : (ts : Trees) → behind_first (unplaced ts) ≡ option_map unplaced (behind_first ts)
behind_first_bare (token (t.Ident i) rest) = ap (λ us. Some us) (behind_idents_bare rest)
behind_first_bare _ = refl

is_call_bare : (o : Option Trees) → is_call (option_map unplaced o) ≡ is_call o
is_call_bare (Some (token (t.Punct p) (group d from inside upto rest))) = refl
is_call_bare _ = refl

-- whether a macro's name, `!` and a group stand there
pub macro_blind : Blind sees_macro
macro_blind ts =
    ap is_call (ap behind_first (behind_colons_bare ts) ∙ behind_first_bare (behind_colons ts)) ∙ is_call_bare (behind_plain ts)

-- ---- pairs of puncts, and puncts that stand alone

pub natural_colons : Natural same read_colons
natural_colons = natural_pair 58 58

pub natural_arrow : Natural same read_arrow
natural_arrow = natural_pair 45 62

pub natural_colon : Natural same read_colon
natural_colon = natural_lone 58 (58 ∷ [])

pub natural_equals : Natural same read_equals
natural_equals = natural_lone 61 (61 ∷ 62 ∷ [])

-- ---- plain paths

pub natural_leading : Natural same read_leading
natural_leading l m = alike_flag sees_colons colons_blind (natural_colons l m)

pub natural_plain : Natural unplaced_plain read_plain
natural_plain l m =
    alike_gives
    (alike_and (natural_leading l m)
    (alike_chain (ending l m) (ending l 0) sees_colons colons_blind (natural_colons l m) (natural_any l m)))
    plain_path_of (λ v. refl)

-- ---- groups of any delimiter, and what is not read

delim_bare : (ts : Trees) → delim_of (unplaced ts) ≡ delim_of ts
delim_bare (group d from inside upto rest) = refl
delim_bare _ = refl

kept_bare : (l m : ℕ) (ts : Trees) (found : Option Delim) →
    answer_of (kept_by (ending l 0) (unplaced ts) found) ≡ bare_answer (both same unplaced_stream) (answer_of (kept_by (ending l m) ts found))
kept_bare l m ts None = refl
kept_bare l m ts (Some d) =
    (alike_gives {b = both same unplaced_stream} (natural_group d read_rest natural_rest l m) (with_delim d) (λ s. refl)).at ts

pub natural_kept : Natural (both same unplaced_stream) read_kept
natural_kept l m =
    record { at = λ ts. ap (λ found. answer_of (kept_by (ending l 0) (unplaced ts) found)) (delim_bare ts) ∙ kept_bare l m ts (delim_of ts) }

pub natural_opaque : Natural unplaced_opaque read_opaque
natural_opaque l m =
    alike_either at_end at_end_blind (alike_refused (ending l m) (ending l 0)) (alike_gives (natural_rest l m) opaque_of (λ s. refl))

-- ---- attributes

natural_args : Natural unplaced_args read_args
natural_args l m =
    alike_either at_end at_end_blind (alike_nothing args.Absent args.Absent refl)
    (alike_either sees_equals equals_blind
    (alike_gives (alike_next (natural_equals l m) (natural_opaque l m)) value_args (λ o. refl))
    (alike_gives (natural_kept l m) list_args (λ v. refl)))

natural_inside : Natural (both unplaced_plain unplaced_args) read_inside
natural_inside l m = alike_and (natural_plain l m) (natural_args l m)

natural_attribute : Natural unplaced_attribute read_attribute
natural_attribute l m =
    alike_gives (alike_ranged (alike_next (natural_punct 35 l m) (natural_group Bracket read_inside natural_inside l m))) attribute_of
    (λ v. refl)

pub natural_attributes : Natural (map unplaced_attribute) read_attributes
natural_attributes l m = alike_repeated (ending l m) (ending l 0) (sees 35) (sees_blind 35) [] (natural_attribute l m)

-- ---- `<..>` and `for<..>`

pub natural_angles : {A : Type 0} {a : A → A} (inner : Where → Parser A) → Natural a inner → Natural a (read_angles inner)
natural_angles inner h l m = alike_next (natural_punct 60 l m) (alike_till (h (l + 1) m) (natural_punct 62 l m))

natural_lifetimes : Natural bare_punctuated read_lifetimes
natural_lifetimes l m = alike_gives (alike_list l m 44 (sees 62) (sees_blind 62) (natural_lifetime l m)) punctuated (λ v. refl)

pub bare_lifetimes_are : (ls : Option (Punctuated Lifetime)) → option_map bare_punctuated ls ≡ unplaced_lifetimes ls
bare_lifetimes_are None = refl
bare_lifetimes_are (Some ls) = refl

pub natural_for : Natural unplaced_lifetimes read_for
natural_for l m =
    alike_by
    (alike_perhaps (sees_word (codes "for")) (word_blind (codes "for"))
    (alike_next (natural_word (codes "for") l m) (natural_angles read_lifetimes natural_lifetimes l m)))
    bare_lifetimes_are

-- ---- constants

pub natural_constant : Natural unplaced_constant read_constant
natural_constant l m =
    alike_either (λ ts. sees 45 ts || sees_literal ts) (or_blind (sees 45) sees_literal (sees_blind 45) literal_blind)
    (alike_gives (alike_and (alike_flag (sees 45) (sees_blind 45) (natural_punct 45 l m)) (natural_literal l m)) literal_of (λ v. refl))
    (alike_either (sees_group Brace) (group_blind Brace) (alike_gives (natural_group Brace read_rest natural_rest l m) block_of (λ s. refl))
    (alike_either sees_truth truth_blind (alike_gives (natural_ident is_truth (λ i. refl) l m) truth_of (λ i. refl))
    (alike_gives (natural_ident is_name (λ i. refl) l m) name_of (λ i. refl))))
