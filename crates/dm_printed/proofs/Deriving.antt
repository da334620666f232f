-- What the steps of a derive say of the text.
use Rattle.std.proofs.Common.{◌≡◌, ℕ, List, [], ◌∷◌, length, true, false, cond, codes, Option, option_map, None, Some, Result, Ok, Err, ap, sym, subst, ◌∙◌, inl, inr}
use Rattle.std.specs.Prelude.{◌⊎◌, String}
use Rattle.std.specs.declared.alloc.Global.{Global}
use Rattle.std.specs.Str.{chars, bytes_eq}
use Rattle.dm_stream.specs.declared.error.Kind.{Kind}
use Rattle.dm_stream.specs.declared.error.Kind.TheVariants as kind
use Rattle.dm_stream.specs.declared.tokens.Span.{Span}
use Rattle.dm_stream.specs.declared.error.Refusal.{Refusal}
use Rattle.dm_stream.specs.declared.error.Error.{Error}
use Rattle.dm_stream.specs.declared.error.Error.TheVariants.{NoMemory, Refused}
use Rattle.dm_stream.specs.Trees.{Trees}
use Rattle.dm_lexer.specs.Rows.{reading}
use Rattle.dm_lexer.specs.Nesting.{IsRefused, IsWhole}
use Rattle.dm_lexer.proofs.Nestings.{trees-only}
use Rattle.dm_ast.specs.declared.decl.DeriveInput.{DeriveInput}
use Rattle.dm_ast.specs.Declarations.{Declaration, declaration_view}
use Rattle.dm_ast.specs.Spelling.{Marks, first_too_deep}
use Rattle.dm_ast.specs.Parsed.{SpelledBy, IsUnread}
use Rattle.dm_ast.specs.Names.{names_refusal}
use Rattle.dm_names.proofs.NameRefusals.{refused_not_named}
use Rattle.dm_output.specs.Output.{ItemTree}
use Rattle.dm_output.specs.Tokens as tokens
use Rattle.dm_partial_eq.specs.Expanded.{IsPrinted}
use Rattle.dm_partial_eq.proofs.CheckLaws as compared
use Rattle.dm_operators.proofs.ValidLaws as operators
use Rattle.dm_operators.specs.declared.operator.Operator as programs-operator
use Rattle.dm_operators.specs.Operators.{Operator, IsOperator, operator_named}
use Rattle.dm_operators.specs.Table.{operator_view}
use Rattle.dm_printed.specs.declared.traits.Trait as programs
use Rattle.dm_printed.specs.declared.traits.Trait.TheVariants as variants
use Rattle.dm_printed.specs.Answers.{trait_view, IsDerived, TraitPrints}
use Rattle.dm_printed.specs.Traits.{Trait, partial_eq, an_operator, trait_named, refusal, IsValid, IsText}
use Rattle.dm_printed.specs.Derived.{Answers, Grammar, Names, IsKnown, IsRead, Reads, Prints, IsNotLexed, IsNotParsed, IsMisnamed, IsNotDerived, Refuses, IsDerivable, IsUnrefused}
use Rattle.dm_printed.proofs.Reading.{can-expand}

-- ---- refusals

-- what reading refuses is refused for each trait
pub not-read : (t : Trait) (name text : List ℕ) (r : Refusal) → Names name t → Reads text (Err (Refused r)) → Refuses name text r
unfolding Refuses
not-read t name text r known h =
    elim h as (λ _. Refuses name text r) [
      | inl bad ↦ inr (t, known, inl bad)
      | inr late ↦ elim late as (λ _. Refuses name text r) [ inl bad ↦ inr (t, known, inr (inl bad)) | inr bad ↦ inr (t, known, inr (inr (inl bad))) ]
    ]

-- and so is what the trait refuses
pub not-given : (t : Trait) (name text : List ℕ) (d : DeriveInput) (r : Refusal) → Names name t → Reads text (Ok d) →
    refusal t (declaration_view d) ≡ Some r → Refuses name text r
unfolding Refuses
not-given t name text d r known h m =
    inr (t, known, inr (inr (inr (record { declaration = declaration_view d; is_read = h.0; named = h.1; refused = m }))))

pub not-known : (name text : List ℕ) (r : Refusal) → (IsKnown name → ⊥) →
    r ≡ record { kind = kind.UnknownTrait; span = record { start = 0; «end» = 0 } } → Refuses name text r
unfolding Refuses
not-known name text r un is = inl (record { unknown = un; is = is })

-- ---- traits

-- what `PartialEq` prints is what its trait does
pub compares-text : (d : Declaration) (r : Result (String Global) Error) → IsPrinted d r → TraitPrints partial_eq d r
compares-text d (Ok x) h = h
compares-text d (Err NoMemory) h = h
compares-text d (Err (Refused r)) h = h

-- an operator that is named is one of the table
some-operator : (name : List ℕ) (p : Option Operator) (o : Operator) → option_map an_operator p ≡ Some (an_operator o) → p ≡ Some o
some-operator name None o h = absurd cc
some-operator name (Some q) o h = let same : q ≡ o = cc in ap (λ z. Some z) same

pub is-operator : (name : List ℕ) (o : Operator) → trait_named name ≡ Some (an_operator o) → IsOperator o
is-operator name o h =
    record {
      name = name;
      found = some-operator name (operator_named name) o
          ((elim (bytes_eq name (codes "PartialEq")) as (λ b.
          cond b (Some partial_eq) (option_map an_operator (operator_named name)) ≡ Some (an_operator o) →
          option_map an_operator (operator_named name) ≡ Some (an_operator o)) [ true ↦ λ k. absurd cc | false ↦ λ k. k ]) h);
    }

pub derived-operator : (t : programs.Trait) (o : programs-operator.Operator) → IsDerived t → t ≡ variants.Operator o → IsOperator (operator_view o)
derived-operator t o h is = is-operator h.name (operator_view o) (h.named ∙ ap (λ z. Some (trait_view z)) is)

-- a name that none has is that of no trait
pub unnamed : (name : List ℕ) → trait_named name ≡ None → IsKnown name → ⊥
unnamed name h k = let both : None ≡ Some k.0 = sym h ∙ k.1 in cc

-- ---- the text

pub not-printed : (t : Trait) (name text : List ℕ) (e : Error) → Names name t → Reads text (Err e) → Prints name text (Err e)
not-printed t name text NoMemory known h = tt
not-printed t name text (Refused r) known h = not-read t name text r known h

pub printed : (t : Trait) (name text : List ℕ) (d : DeriveInput) (r : Result (String Global) Error) → Names name t → Reads text (Ok d) →
    TraitPrints t (declaration_view d) r → Prints name text r
unfolding Answers
printed t name text d (Ok x) known h m =
    (m.1.0, record { derived = t; is_known = known; declaration = declaration_view d; is_read = h.0; named = h.1; expanded = m.1.1 })
printed t name text d (Err NoMemory) known h m = tt
printed t name text d (Err (Refused r)) known h m = not-given t name text d r known h m

-- ---- texts of which nothing is refused

whole-lexed : (text : List ℕ) (k : Kind) (s : Span) → IsWhole text → IsRefused text k s → ⊥
whole-lexed text kind.Lex s whole h = let e = whole.no_fault in let f = h.0 in cc
whole-lexed text kind.TooDeep s whole h = let e = whole.shallow in let f = h.1 in cc
whole-lexed text _ s whole h = h

-- a declaration is spelled by these trees
not-unread : (k : Kind) (s : Span) (limit : ℕ) (ts : Trees) (d : Declaration) (m : Marks) → SpelledBy d limit ts m → first_too_deep m ≡ None →
    IsUnread k s limit ts → ⊥
not-unread kind.TooDeep s limit ts d m there within h = let deep = h.first d m there in cc
not-unread kind.Syntax s limit ts d m there within h = h.none d m there
not-unread _ s limit ts d m there within h = h

-- the trait refuses none that is valid
none-refused : (t : Trait) (d : Declaration) → IsValid t d → refusal t d ≡ None
none-refused partial_eq d valid = (compared.unrefused d).1 valid
none-refused (an_operator o) d valid = (operators.unrefused o d).1 valid

not-refused : (t : Trait) (d : Declaration) (r : Refusal) → IsValid t d → refusal t d ≡ Some r → ⊥
not-refused t d r valid some = let none = none-refused t d valid in cc

-- a name is that of one trait
one-trait : (name : List ℕ) (t u : Trait) → Names name t → Names name u → u ≡ t
one-trait name t u h k = let same : Some u ≡ Some t = sym k ∙ h in cc

-- what is read is the declaration that the text spells
read-it : (text : List ℕ) (d e : Declaration) → Grammar text d → IsRead text e → d ≡ e
read-it text d e g k =
    k.only d (record { trees = g.trees; are_trees = g.are_trees.are_trees; marks = g.marks; spelled = g.spelled })

-- a text has one declaration
pub read-one : (text : List ℕ) (d e : Declaration) → IsRead text d → IsRead text e → e ≡ d
read-one text d e h k =
    let one = k.is_the_one in
    h.only e (record { trees = k.trees; are_trees = k.are_trees.are_trees; marks = one.marks; spelled = one.there })

not-parsed-not : (text : List ℕ) (d : Declaration) (r : Refusal) → Grammar text d → IsNotParsed text r → ⊥
not-parsed-not text d r g bad =
    let same : bad.trees ≡ g.trees = trees-only (reading 0 0 (chars text)) g.trees bad.trees g.are_trees.are_trees bad.are_trees.are_trees in
    not-unread r.kind r.span (length text) g.trees d g.marks g.spelled g.within (subst (λ ts. IsUnread r.kind r.span (length text) ts) same bad.unread)

none-late : (name text : List ℕ) (r : Refusal) (d : IsDerivable name text) →
    IsNotLexed text r ⊎ IsNotParsed text r ⊎ IsMisnamed text r ⊎ IsNotDerived d.derived text r → ⊥
none-late name text r d (inl h) = whole-lexed text r.kind r.span d.grammar.are_trees.whole h.refused
none-late name text r d (inr (inl h)) = not-parsed-not text d.declaration r d.grammar h
none-late name text r d (inr (inr (inl h))) =
    refused_not_named d.declaration r (ap names_refusal (read-it text d.declaration h.declaration d.grammar h.is_read) ∙ h.misnamed) d.named
none-late name text r d (inr (inr (inr h))) =
    not-refused d.derived d.declaration r d.valid
    (ap (refusal d.derived) (read-it text d.declaration h.declaration d.grammar h.is_read) ∙ h.refused)

pub derivable : (name text : List ℕ) → IsDerivable name text → (r : Refusal) → ¬ (Refuses name text r)
unfolding Refuses
derivable name text d r h = elim h as (λ _. ⊥) [
  | inl un ↦ un.unknown (d.derived, d.known)
  | inr late ↦ none-late name text r d
      (subst (λ t. IsNotLexed text r ⊎ IsNotParsed text r ⊎ IsMisnamed text r ⊎ IsNotDerived t text r)
      (one-trait name d.derived late.0 d.known late.1) late.2)
]

pub prints-it : (name text : List ℕ) (r : Result (String Global) Error) → Prints name text r → IsDerivable name text → IsUnrefused r
prints-it name text (Ok x) h d = tt
prints-it name text (Err NoMemory) h d = tt
prints-it name text (Err (Refused r)) h d = derivable name text d r h

pub ruleset derive_steps = (not-known, unnamed, can-expand, not-printed, printed, prints-it)

pub ruleset trait_steps = (compares-text, derived-operator)

-- ---- a text has one answer

-- the implementations of a trait for a declaration have one text
pub text-once : (t : Trait) (d : Declaration) (x y : List ℕ) → IsText t d x → IsText t d y → x ≡ y
text-once t d x y a b =
    a.1.text_is ∙ ap (λ (i : ItemTree). tokens.printed (i ∷ [])) (a.1.is_emitted ∙ sym b.1.is_emitted) ∙ sym b.1.text_is

pub answers-once : (name text x y : List ℕ) → Answers name text x → Answers name text y → x ≡ y
unfolding Answers
answers-once name text x y a b =
    let same : b.1.declaration ≡ a.1.declaration = read-one text a.1.declaration b.1.declaration a.1.is_read b.1.is_read in
    let one : b.1.derived ≡ a.1.derived = one-trait name a.1.derived b.1.derived a.1.is_known b.1.is_known in
    text-once a.1.derived a.1.declaration x y (a.0, a.1.expanded)
    (subst (λ t. IsText t a.1.declaration y) one (subst (λ d. IsText b.1.derived d y) same (b.0, b.1.expanded)))
