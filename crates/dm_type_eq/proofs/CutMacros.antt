-- Macro calls: none comes next in what is cut from trees where none does; and where a path, `!` and a group are spelled, one does.
use Rattle.std.proofs.Common.{◌≡◌, ℕ, Bool, true, false, cond, nat_eq, List, [], ◌∷◌, Some, refl, sym, ap, ◌∙◌, ⊎_elim}
use Rattle.std.proofs.lemmas.Bool.{eqb-true, cases_Bool}
use Rattle.dm_stream.specs.declared.tokens.Delim.{Delim}
use Rattle.dm_stream.specs.declared.tokens.Ident.{Ident}
use Rattle.dm_stream.specs.declared.tokens.Punct.{Punct}
use Rattle.dm_stream.specs.declared.tokens.Spacing.TheVariants.{Joint}
use Rattle.dm_stream.specs.declared.tokens.Token.TheVariants as t
use Rattle.dm_stream.specs.Trees.{Trees, token, group}
use Rattle.dm_ast.specs.declared.plain.PlainPath.{PlainPath}
use Rattle.dm_ast.specs.Spelling.{Where, Marks, Spelling, ◌then◌, flag, repeated, chain, sees, sees_colons, ident, punct, colons, GroupAt}
use Rattle.dm_ast.specs.TypeGrammar.{behind_colons, behind_idents, behind_first, is_call, sees_macro, plain_path}
use Rattle.dm_read.proofs.MacroSeeing.{no_colons}
use Rattle.dm_type_eq.proofs.Cutting.{Cut, cut_ident, cut_punct, cut_pair, cut_group, Unseen, same_front, are_colons, alone, alone_apart}

-- ---- what doesn't begin with `::`

idents_stay : (ts : Trees) → sees_colons ts ≡ false → behind_idents ts ≡ ts
idents_stay (token (t.Punct a) (token (t.Punct b) (token (t.Ident i) rest))) e =
    ap (λ x. cond x (behind_idents rest) (token (t.Punct a) (token (t.Punct b) (token (t.Ident i) rest)))) e
idents_stay _ e = refl

-- ---- what is cut

-- a test on what is behind two puncts, or on the two
behind_pair : (test : Trees → Bool) (b c : Bool) (us vs ts ss : Trees) → b ≡ c → (test ts ≡ false → test us ≡ false) → test vs ≡ false →
    test (cond c ts ss) ≡ false → test (cond b us vs) ≡ false
behind_pair test true c us vs ts ss e f g h = f (ap (λ x. test (cond x ts ss)) e ∙ h)
behind_pair test false c us vs ts ss e f g h = g

other_mark : (c : ℕ) (us : Trees) → nat_eq c 33 ≡ false → is_call (Some (alone c us)) ≡ false
other_mark c (group d from inside upto rest) e = e
other_mark c _ e = refl

behind_mark : (c : ℕ) (p : Punct) (us ts : Trees) → Cut us ts → p.ch ≡ c → is_call (Some (behind_idents (token (t.Punct p) ts))) ≡ false →
    is_call (Some (alone c us)) ≡ false
behind_mark c p _ _ (cut_group d f g i j us vs ts ss) e h = ap (λ x. nat_eq x 33) (sym e) ∙ h
behind_mark c p _ _ _ e h = refl

unseen_call : Unseen (λ ts. is_call (Some (behind_idents ts)))
unseen_call _ _ (cut_punct c p us ts e l f) h =
    ap (λ x. is_call (Some x)) (idents_stay (alone c us) (alone_apart (nat_eq c 58) (sees 58 us))) ∙
    ⊎_elim (λ x. behind_mark c p us ts (f (eqb-true c 33 x)) e h) (other_mark c us) (cases_Bool (nat_eq c 33))
unseen_call _ _ (cut_pair a b p q _ _ e e1 e2 (cut_ident i us ts k)) h =
    behind_pair (λ xs. is_call (Some xs)) (are_colons a Joint b) (are_colons p.ch p.spacing q.ch) (behind_idents us) _ (behind_idents ts) _
    (same_front are_colons a b p q e e1 e2) (unseen_call us ts k) refl h
unseen_call _ _ _ h = refl

unseen_first : Unseen (λ ts. is_call (behind_first ts))
unseen_first _ _ (cut_ident i us ts k) h = unseen_call us ts k h
unseen_first _ _ _ h = refl

pub unseen_macro : Unseen sees_macro
unseen_macro _ _ (cut_ident i us ts k) h = unseen_call us ts k h
unseen_macro _ _ (cut_punct c p us ts e l f) h = ap (λ x. is_call (behind_first x)) (no_colons (alone c us) (alone_apart (nat_eq c 58) (sees 58 us)))
unseen_macro _ _ (cut_pair a b p q us ts e e1 e2 k) h =
    behind_pair (λ xs. is_call (behind_first xs)) (are_colons a Joint b) (are_colons p.ch p.spacing q.ch) us _ ts _
    (same_front are_colons a b p q e e1 e2) (unseen_first us ts k) refl h
unseen_macro _ _ _ h = refl

-- ---- what is spelled

-- two puncts that are spelled as `::` are seen so
spelled_colons : (w : Where) (ts us : Trees) (m : Marks) (f : colons w ts us m) → true ≡ are_colons f.first.ch f.first.spacing f.second.ch
spelled_colons w ts us m f = same_front are_colons 58 58 f.first f.second f.is_first f.is_joint f.is_second

behind_leading : (w : Where) (b : Bool) (ts us : Trees) (m : Marks) → flag sees_colons b (colons w) ts us m → behind_colons ts ≡ us
behind_leading w true ts us m f =
    ap behind_colons f.spelled ∙ sym (ap (λ x. cond x us (token (t.Punct f.first) (token (t.Punct f.second) us))) (spelled_colons w ts us m f))
behind_leading w false ts us m f = ap behind_colons f.part.spelled ∙ no_colons us f.fact

behind_names : (w : Where) (names : List Ident) (ts us : Trees) (m : Marks) →
    repeated sees_colons (λ i. colons w then ident w i) names ts us m → behind_idents ts ≡ us
behind_names w [] ts us m f = ap behind_idents f.part.spelled ∙ idents_stay us f.fact
behind_names w (i ∷ names) ts us m f =
    let pair = f.first.first in
    let front : Trees → Trees = λ xs. token (t.Punct pair.first) (token (t.Punct pair.second) xs) in
    ap behind_idents (pair.spelled ∙ ap front f.first.rest.spelled) ∙
    (sym (ap (λ x. cond x (behind_idents f.middle) (front (token (t.Ident i) f.middle))) (spelled_colons w ts f.first.middle f.first.first_marks pair)) ∙
    behind_names w names f.middle us f.rest_marks f.rest)

behind_chain : (w : Where) (names : List Ident) (ts us : Trees) (m : Marks) →
    chain (colons w) sees_colons (ident w) names ts us m → behind_first ts ≡ Some us
behind_chain w [] ts us m f = absurd f.fact
behind_chain w (i ∷ names) ts us m f = ap behind_first f.first.spelled ∙ ap Some (behind_names w names f.middle us f.rest_marks f.rest)

pub macro_front : (w : Where) (p : PlainPath) (ts mid more o : Trees) (m k n : Marks) (d : Delim) (Inside : Where → Spelling) →
    plain_path w p ts mid m → punct w 33 mid more k → GroupAt w d Inside more o n → sees_macro ts ≡ true
macro_front w p ts mid more o m k n d Inside f g h =
    ap (λ x. is_call (behind_first x)) (behind_leading w p.leading_colon ts f.middle f.first_marks f.first) ∙
    (ap is_call (behind_chain w p.segments f.middle mid f.rest_marks f.rest) ∙
    (ap (λ x. is_call (Some x)) (g.there.spelled ∙ ap (token (t.Punct g.punct)) h.spelled) ∙ ap (λ x. nat_eq x 33) g.is))
