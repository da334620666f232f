-- Where the parts that hold no types are refused: at a place in the trees, and as too deep only behind too many openers.
use Rattle.std.proofs.Common.{◌||◌, [], ◌∷◌, codes, Option, Some, None, refl}
use Rattle.dm_stream.specs.declared.tokens.Delim.{Delim}
use Rattle.dm_stream.specs.declared.tokens.Delim.TheVariants.{Paren, Bracket, Brace}
use Rattle.dm_stream.specs.Trees.{Trees, Stream}
use Rattle.dm_ast.specs.declared.plain.AttrArgs.TheVariants as args
use Rattle.dm_ast.specs.declared.plain.Vis.TheVariants as vis
use Rattle.dm_ast.specs.Keywords.{is_name}
use Rattle.dm_ast.specs.Spelling.{Where, deeper, at_end, sees, sees_word, sees_colons, sees_equals, sees_literal, sees_group}
use Rattle.dm_ast.specs.TypeGrammar.{is_truth}
use Rattle.dm_ast.specs.DeclarationGrammar.{sees_restriction}
use Rattle.dm_ast.specs.Readers.{Parser, read_colons, read_colon, read_equals, read_arrow, inside_at, read_group, read_rest}
use Rattle.dm_ast.specs.PlainReaders.{plain_path_of, read_leading, read_idents, read_plain, with_delim, delim_of, kept_by, read_kept, opaque_of, read_opaque, list_args, value_args, read_value, read_args, read_inside, attribute_of, read_attribute, read_attributes, read_angles, punctuated, read_lifetimes, read_some_for, read_for, literal_of, read_signed, truth_of, block_of, name_of, sees_truth, read_constant, as_crate, as_self, as_super, as_in, read_within, read_restriction, read_visibility}
use Rattle.dm_grammar_laws.proofs.LicensedSteps.{Licensed}
use Rattle.dm_grammar_laws.proofs.Licensing.{Licenses, licensed_any, licensed_raised, licensed_mapped, licensed_gives, licensed_and, licensed_next, licensed_next_deeper, licensed_till, licensed_either, licensed_nothing, licensed_refuse, refused_outcome, licensed_ident, licensed_any_ident, licensed_lifetime, licensed_literal, licensed_punct, licensed_word, licensed_lone, licensed_pair, licensed_opener, licensed_group, licensed_flag, licensed_perhaps, licensed_rest, licensed_list, licensed_repeated, licensed_chain, licensed_ranged}

-- ---- pairs of puncts, and puncts that stand alone

pub licensed_colons : (w : Where) → Licenses 0 w (read_colons w)
licensed_colons = licensed_pair 58 58

pub licensed_arrow : (w : Where) → Licenses 0 w (read_arrow w)
licensed_arrow = licensed_pair 45 62

pub licensed_colon : (w : Where) → Licenses 0 w (read_colon w)
licensed_colon = licensed_lone 58 (58 ∷ [])

pub licensed_equals : (w : Where) → Licenses 0 w (read_equals w)
licensed_equals = licensed_lone 61 (61 ∷ 62 ∷ [])

-- ---- plain paths

pub licensed_leading : (w : Where) → Licenses 0 w (read_leading w)
licensed_leading w = licensed_flag sees_colons (licensed_colons w)

licensed_idents : (w : Where) → Licenses 0 w (read_idents w)
licensed_idents w = licensed_chain sees_colons (licensed_colons w) (licensed_any_ident w)

pub licensed_plain : (w : Where) → Licenses 0 w (read_plain w)
licensed_plain w = licensed_gives (licensed_and (licensed_leading w) (licensed_idents w)) plain_path_of

-- ---- groups of any delimiter, and what is not read

kept_outcome : (w : Where) (ts : Trees) (found : Option Delim) → Licensed 0 w ts (kept_by w ts found)
kept_outcome w ts None = refused_outcome (Delim × Stream) 0 w ts
kept_outcome w ts (Some d) =
    licensed_mapped (with_delim d) 0 w ts (read_group d read_rest w ts)
    ((licensed_any (licensed_group d read_rest w (λ limit. licensed_rest (inside_at w limit)))).at ts)

pub licensed_kept : (w : Where) → Licenses 0 w (read_kept w)
licensed_kept w = record { at = λ ts. kept_outcome w ts (delim_of ts) }

pub licensed_opaque : (w : Where) → Licenses 0 w (read_opaque w)
licensed_opaque w = licensed_either at_end licensed_refuse (licensed_gives (licensed_rest w) opaque_of)

-- ---- attributes

licensed_value : (w : Where) → Licenses 0 w (read_value w)
licensed_value w = licensed_next (licensed_equals w) (licensed_opaque w)

licensed_args : (w : Where) → Licenses 0 w (read_args w)
licensed_args w =
    licensed_either at_end (licensed_nothing args.Absent)
    (licensed_either sees_equals (licensed_gives (licensed_value w) value_args) (licensed_gives (licensed_kept w) list_args))

licensed_inside : (w : Where) → Licenses 0 w (read_inside w)
licensed_inside w = licensed_and (licensed_plain w) (licensed_args w)

licensed_attribute : (w : Where) → Licenses 0 w (read_attribute w)
licensed_attribute w =
    licensed_gives
    (licensed_ranged (licensed_next (licensed_punct 35 w) (licensed_any
    (licensed_group Bracket read_inside w (λ limit. licensed_inside (inside_at w limit)))))) attribute_of

pub licensed_attributes : (w : Where) → Licenses 0 w (read_attributes w)
licensed_attributes w = licensed_repeated (sees 35) [] (licensed_attribute w)

-- ---- `<..>` and `for<..>`

pub licensed_angles : {A : Type 0} (inner : Where → Parser A) (w : Where) → Licenses 0 (deeper w) (inner (deeper w)) → Licenses 1 w (read_angles inner w)
licensed_angles inner w h = licensed_next_deeper (licensed_opener 60 refl w) (licensed_till h (licensed_raised (licensed_punct 62 w)))

licensed_lifetimes : (w : Where) → Licenses 0 w (read_lifetimes w)
licensed_lifetimes w = licensed_gives (licensed_list 44 (sees 62) (licensed_lifetime w)) punctuated

licensed_some_for : (w : Where) → Licenses 0 w (read_some_for w)
licensed_some_for w = licensed_next (licensed_word (codes "for") w) (licensed_any (licensed_angles read_lifetimes w (licensed_lifetimes (deeper w))))

pub licensed_for : (w : Where) → Licenses 0 w (read_for w)
licensed_for w = licensed_perhaps (sees_word (codes "for")) (licensed_some_for w)

-- ---- constants

licensed_signed : (w : Where) → Licenses 0 w (read_signed w)
licensed_signed w = licensed_and (licensed_flag (sees 45) (licensed_punct 45 w)) (licensed_literal w)

pub licensed_constant : (w : Where) → Licenses 0 w (read_constant w)
licensed_constant w =
    licensed_either (λ ts. sees 45 ts || sees_literal ts) (licensed_gives (licensed_signed w) literal_of)
    (licensed_either (sees_group Brace) (licensed_gives (licensed_any (licensed_group Brace read_rest w (λ limit. licensed_rest (inside_at w limit)))) block_of)
    (licensed_either sees_truth (licensed_gives (licensed_ident is_truth w) truth_of) (licensed_gives (licensed_ident is_name w) name_of)))

-- ---- visibility

licensed_within : (w : Where) → Licenses 0 w (read_within w)
licensed_within w =
    licensed_either (sees_word (codes "crate")) (licensed_gives (licensed_word (codes "crate") w) as_crate)
    (licensed_either (sees_word (codes "self")) (licensed_gives (licensed_word (codes "self") w) as_self)
    (licensed_either (sees_word (codes "super")) (licensed_gives (licensed_word (codes "super") w) as_super)
    (licensed_gives (licensed_next (licensed_word (codes "in") w) (licensed_plain w)) as_in)))

licensed_restriction : (w : Where) → Licenses 0 w (read_restriction w)
licensed_restriction w =
    licensed_either sees_restriction (licensed_any (licensed_group Paren read_within w (λ limit. licensed_within (inside_at w limit))))
    (licensed_nothing vis.Public)

pub licensed_visibility : (w : Where) → Licenses 0 w (read_visibility w)
licensed_visibility w = licensed_perhaps (sees_word (codes "pub")) (licensed_next (licensed_word (codes "pub") w) (licensed_restriction w))
