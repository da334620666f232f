-- Whether a macro call comes next, by what the calls of a cursor say.
use Rattle.std.proofs.Common.{◌≡◌, suc, ◌+◌, ◌≤◌, Bool, true, false, ◌&&◌, nat_eq, cond, ◌∷◌, ◌++◌, length, length-append, Some, None, refl, sym, ap, ◌∙◌, arith}
use Rattle.std.proofs.lemmas.Grind.{common_steps}
use Rattle.dm_stream.specs.declared.tokens.Ident.{Ident}
use Rattle.dm_stream.specs.declared.tokens.Punct.{Punct}
use Rattle.dm_stream.specs.declared.tokens.Delim.{Delim}
use Rattle.dm_stream.specs.declared.tokens.Span.{Span}
use Rattle.dm_stream.specs.declared.tokens.Entry.TheVariants as entry
use Rattle.dm_stream.specs.declared.tokens.Token.TheVariants as t
use Rattle.dm_stream.specs.Trees.{Trees, no_trees, token, group, flatten}
use Rattle.dm_stream.specs.Cursors.{first_ident, first_punct}
use Rattle.dm_ast.specs.Spelling.{sees_colons, is_joint}
use Rattle.dm_ast.specs.Readers.{tail}
use Rattle.dm_ast.specs.PlainReaders.{delim_of}
use Rattle.dm_read.specs.Links.{sees_ident, sees_link}
use Rattle.dm_ast.specs.TypeGrammar.{behind_colons, behind_idents, behind_first, is_call, sees_macro}
use Rattle.dm_read.proofs.Seeing.{ident_front, punct_front}
use Rattle.dm_read.proofs.PathSeeing.{not_both, colons_tail}

pub some_ident : (ts us : Trees) (i : Ident) → first_ident ts ≡ Some (i, us) → sees_ident ts ≡ true
some_ident ts us i e = ap sees_ident (ident_front ts us i e)

pub no_ident : (ts : Trees) → first_ident ts ≡ None → sees_ident ts ≡ false
no_ident (token (t.Ident q) rest) e = absurd (cc)
no_ident _ e = refl

pub ruleset ident_steps = (common_steps, some_ident, no_ident)

-- ---- `::` and an identifier

no_link : (b c : Bool) → ((b && false) && c) ≡ true → ⊥
no_link true c e = cc
no_link false c e = cc

no_name : (b : Bool) → (b && false) ≡ true → ⊥
no_name b e = not_both b e

first_true : (b c : Bool) → (b && c) ≡ true → b ≡ true
first_true true c e = refl
first_true false c e = absurd (cc)

pub link_on : (ts : Trees) → sees_link ts ≡ true → behind_idents ts ≡ behind_idents (tail (tail (tail ts)))
link_on (token (t.Punct a) (token (t.Punct b) (token (t.Ident i) rest))) e =
    ap (λ x. cond x (behind_idents rest) (token (t.Punct a) (token (t.Punct b) (token (t.Ident i) rest))))
    (first_true ((nat_eq a.ch 58 && is_joint a.spacing) && nat_eq b.ch 58) true e)
link_on (token (t.Punct a) (token (t.Punct b) (token (t.Punct i) rest))) e = absurd (no_name _ e)
link_on (token (t.Punct a) (token (t.Punct b) (token (t.Literal i) rest))) e = absurd (no_name _ e)
link_on (token (t.Punct a) (token (t.Punct b) (token (t.Lifetime i) rest))) e = absurd (no_name _ e)
link_on (token (t.Punct a) (token (t.Punct b) (group d from inside upto rest))) e = absurd (no_name _ e)
link_on (token (t.Punct a) (token (t.Punct b) no_trees)) e = absurd (no_name _ e)
link_on (token (t.Punct a) (token (t.Ident b) rest)) e = absurd (no_link _ _ e)
link_on (token (t.Punct a) (token (t.Literal b) rest)) e = absurd (no_link _ _ e)
link_on (token (t.Punct a) (token (t.Lifetime b) rest)) e = absurd (no_link _ _ e)
link_on (token (t.Punct a) (group d from inside upto rest)) e = absurd (no_link _ _ e)
link_on (token (t.Punct a) no_trees) e = absurd (no_link _ _ e)
link_on _ e = absurd (cc)

and_true : (b : Bool) → (b && true) ≡ b
and_true true = refl
and_true false = refl

pub link_off : (ts : Trees) → sees_link ts ≡ false → behind_idents ts ≡ ts
link_off (token (t.Punct a) (token (t.Punct b) (token (t.Ident i) rest))) e =
    ap (λ x. cond x (behind_idents rest) (token (t.Punct a) (token (t.Punct b) (token (t.Ident i) rest))))
    (sym (and_true ((nat_eq a.ch 58 && is_joint a.spacing) && nat_eq b.ch 58)) ∙ e)
link_off _ e = refl

group_tail : (inside rest : Trees) (d : Delim) (from upto : Span) → length (flatten rest) ≤ length (flatten (group d from inside upto rest))
group_tail inside rest d from upto =
    let f : length (flatten inside ++ entry.Close d upto ∷ flatten rest) ≡ length (flatten inside) + suc (length (flatten rest)) = length-append (flatten inside) (entry.Close d upto ∷ flatten rest) in
    omega arith

flat_tail : (ts : Trees) → length (flatten (tail ts)) ≤ length (flatten ts)
flat_tail no_trees = omega arith
flat_tail (token k rest) = omega arith
flat_tail (group d from inside upto rest) = group_tail inside rest d from upto

pub shorter : (ts : Trees) → sees_link ts ≡ true → 1 + length (flatten (tail (tail (tail ts)))) ≤ length (flatten ts)
shorter (token k rest) e = let f = flat_tail rest in let g = flat_tail (tail rest) in omega arith
shorter no_trees e = absurd (cc)
shorter (group d from inside upto rest) e = absurd (cc)

pub no_colons : (ts : Trees) → sees_colons ts ≡ false → behind_colons ts ≡ ts
no_colons (token (t.Punct a) (token (t.Punct b) rest)) e = ap (λ x. cond x rest (token (t.Punct a) (token (t.Punct b) rest))) e
no_colons _ e = refl

pub ruleset colons_steps = (common_steps, colons_tail, no_colons)

-- ---- `!` and a group

call_by : (us : Trees) (d : Delim) (p : Punct) → delim_of us ≡ Some d → is_call (Some (token (t.Punct p) us)) ≡ nat_eq p.ch 33
call_by (group e from inside upto rest) d p h = refl
call_by no_trees d p h = absurd (cc)
call_by (token k rest) d p h = absurd (cc)

pub call_group : (ts us : Trees) (p : Punct) (d : Delim) → first_punct ts ≡ Some (p, us) → delim_of us ≡ Some d → is_call (Some ts) ≡ nat_eq p.ch 33
call_group ts us p d e h = ap (λ x. is_call (Some x)) (punct_front ts us p e) ∙ call_by us d p h

no_call_by : (us : Trees) (p : Punct) → delim_of us ≡ None → is_call (Some (token (t.Punct p) us)) ≡ false
no_call_by (group e from inside upto rest) p h = absurd (cc)
no_call_by no_trees p h = refl
no_call_by (token k rest) p h = refl

pub call_no_group : (ts us : Trees) (p : Punct) → first_punct ts ≡ Some (p, us) → delim_of us ≡ None → is_call (Some ts) ≡ false
call_no_group ts us p e h = ap (λ x. is_call (Some x)) (punct_front ts us p e) ∙ no_call_by us p h

pub no_call : (ts : Trees) → first_punct ts ≡ None → is_call (Some ts) ≡ false
no_call (token (t.Punct q) rest) e = absurd (cc)
no_call _ e = refl

pub ruleset call_steps = (common_steps, call_group, call_no_group, no_call)

-- ---- a macro call

pub macro_named : (ts us : Trees) (i : Ident) → first_ident (behind_colons ts) ≡ Some (i, us) → sees_macro ts ≡ is_call (Some (behind_idents us))
macro_named ts us i e = ap (λ x. is_call (behind_first x)) (ident_front (behind_colons ts) us i e)

pub nothing_first : (ts : Trees) → first_ident ts ≡ None → behind_first ts ≡ None
nothing_first (token (t.Ident q) rest) e = absurd (cc)
nothing_first _ e = refl

pub macro_unnamed : (ts : Trees) → first_ident (behind_colons ts) ≡ None → sees_macro ts ≡ false
macro_unnamed ts e = ap is_call (nothing_first (behind_colons ts) e)

pub ruleset macro_steps = (common_steps, macro_named, macro_unnamed)

pub ruleset link_steps = (common_steps, link_on, link_off, shorter)
