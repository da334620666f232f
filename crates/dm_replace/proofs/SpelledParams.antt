-- No parameter of a declaration that trees spell is spelled `Self`, which is a keyword.
use Rattle.std.proofs.Common.{◌≡◌, ℕ, Bool, true, false, not, ◌&&◌, ◌||◌, List, [], ◌∷◌, codes, All, refl, sym, subst}
use Rattle.std.specs.Str.{bytes_eq}
use Rattle.std.proofs.lemmas.List.Elements.{All-cons, All-nil}
use Rattle.std.proofs.lemmas.Slice.Eq.{bytes_eq-Decides}
use Rattle.dm_stream.specs.declared.tokens.Ident.{Ident}
use Rattle.dm_stream.specs.Trees.{Trees}
use Rattle.dm_ast.specs.Declarations.{Listed, ParamTree, lifetime_param, type_param, const_param, ShapeTree, struct_shape, enum_shape, union_shape, GenericsTree}
use Rattle.dm_ast.specs.Keywords.{is_keyword, is_name}
use Rattle.dm_ast.specs.Spelling.{Where, Marks, sees, items, items_left}
use Rattle.dm_ast.specs.DeclarationGrammar.{param, generics, shape}
use Rattle.dm_ast.specs.Runs.{run}
use Rattle.dm_copy.specs.Replaced.{is_self}
use Rattle.dm_replace.specs.Laws.{is_self_param, SpelledTwiceIsOnce}
use Rattle.dm_replace.proofs.Twice.{twice_is_once}

-- ---- names

plain_self : (name : List ℕ) → bytes_eq name (codes "Self") ≡ true → (not (bytes_eq name (codes "_")) && not (is_keyword name)) ≡ false
unfolding is_keyword
plain_self name e =
    let Plain : List ℕ → Type 0 = λ n. (not (bytes_eq n (codes "_")) && not (is_keyword n)) ≡ false in
    subst Plain (sym ((bytes_eq-Decides name (codes "Self")).0 e)) refl

no_name : (raw : Bool) (name : List ℕ) → (not raw && bytes_eq name (codes "Self")) ≡ true →
    (not (bytes_eq name (codes "_")) && (raw || not (is_keyword name))) ≡ false
no_name true name e = absurd cc
no_name false name e = plain_self name e

name_other : (i : Ident) (b : Bool) → is_self i ≡ b → is_name i ≡ true → b ≡ false
name_other i false is_b named = refl
name_other i true is_b named = let e : is_name i ≡ false = no_name i.raw i.name is_b in absurd cc

-- ---- parameters

abbrev Other : ParamTree → Type 0
Other p = is_self_param p ≡ false

param_other : (p : ParamTree) (w : Where) (ts others : Trees) (m : Marks) → param p w ts others m → Other p
param_other (lifetime_param attrs l bs) w ts others m s = refl
param_other (type_param attrs i bs default) w ts others m s = name_other i (is_self i) refl s.rest.first.fact
param_other (const_param attrs i t default) w ts others m s = name_other i (is_self i) refl s.rest.rest.first.fact

params_left : (ps : List ParamTree) (trailing : Bool) (w : Where) (ends : Trees → Bool) (ts others : Trees) (m : Marks) →
    items_left w 44 ends (λ p. param p w) ps trailing ts others m → All Other ps
params_left [] trailing w ends ts others m s = All-nil Other
params_left (p ∷ ps) trailing w ends ts others m s =
    All-cons Other p ps (param_other p w _ _ _ s.rest.first) (params_left ps trailing w ends _ _ _ s.rest.rest)

params_other : (ps : List ParamTree) (trailing : Bool) (w : Where) (ends : Trees → Bool) (ts others : Trees) (m : Marks) →
    items w 44 ends (λ p. param p w) ps trailing ts others m → All Other ps
params_other [] trailing w ends ts others m s = All-nil Other
params_other (p ∷ ps) trailing w ends ts others m s =
    All-cons Other p ps (param_other p w _ _ _ s.first) (params_left ps trailing w ends _ _ _ s.rest)

generics_other : (angled : Bool) (params : Listed ParamTree) (w : Where) (ts others : Trees) (m : Marks) →
    generics angled params w ts others m → All Other params.items
generics_other true params w ts others m s = params_other params.items params.trailing _ (sees 62) _ _ _ s.part.rest.first
generics_other false params w ts others m s =
    let P : Listed ParamTree → Type 0 = λ l. All Other l.items in subst P (sym (s.fact refl)) (All-nil Other)

shape_other : (k : ShapeTree) (i : Ident) (g : GenericsTree) (w : Where) (ts others : Trees) (m : Marks) →
    shape run k i g w ts others m → All Other g.params.items
shape_other (struct_shape range fs) i g w ts others m s = generics_other g.angled g.params w _ _ _ s.rest.rest.first
shape_other (enum_shape range vs) i g w ts others m s = generics_other g.angled g.params w _ _ _ s.rest.rest.first
shape_other (union_shape range fs) i g w ts others m s = generics_other g.angled g.params w _ _ _ s.rest.rest.first

pub spelled_twice_is_once : SpelledTwiceIsOnce
spelled_twice_is_once d limit ts m s = twice_is_once d (shape_other d.shape d.ident d.generics _ _ _ _ s.spelled.rest.rest)
