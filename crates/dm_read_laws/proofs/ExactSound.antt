-- What is read where it has the tokens that were passed has just these in front of what is left.
use Rattle.std.proofs.Common.{◌≡◌, ◌-◌, true, List, ◌++◌, length, take, Some, Ok, Err, sym, ap, ap₂, ◌∙◌, arith}
use Rattle.std.proofs.lemmas.List.{length-append}
use Rattle.std.proofs.lemmas.Option.{some_pair_parts}
use Rattle.std.proofs.Math.Seq.{take-append_seam}
use Rattle.dm_stream.specs.declared.tokens.Entry.{Entry}
use Rattle.dm_stream.specs.Trees.{Trees, join, flatten}
use Rattle.dm_stream.proofs.Trees.{flatten-join}
use Rattle.dm_lexer.specs.Written.{unplaced}
use Rattle.dm_ast.specs.Spelling.{Spelling}
use Rattle.dm_ast.specs.Readers.{Outcome, Parser}
use Rattle.dm_read.proofs.Deciding.{IsRead, Decides, Reader}
use Rattle.dm_reread.specs.Leaves.{Answer}
use Rattle.dm_reread.specs.BareReading.{bare_answer}
use Rattle.dm_reread.specs.TypeLeaves.{answer_of}
use Rattle.dm_reread.specs.ExactLeaves.{passed, has_entries, exactly}
use Rattle.dm_type_eq.proofs.BareTypeTokens.{unplaced-join}
use Rattle.dm_read_laws.specs.Sound.{IsBare, Spells}
use Rattle.dm_read_laws.proofs.Answers.{tested_some, same_answer}
use Rattle.dm_read_laws.proofs.Entries.{same_split}

-- ---- answers

-- what a reader that decides its grammar answers is spelled
answered : {A : Type 0} (S : A → Spelling) (ts us : Trees) (x : A) (o : Outcome A) → Decides S ts o → answer_of o ≡ Some (x, us) → IsRead S ts x us
answered {A} S ts us x (Ok p) d e = same_answer (λ (q : A × Trees). IsRead S ts q.0 q.1) p (x, us) e d
answered S ts us x (Err r) d e = absurd (cc)

pub is_read : {A : Type 0} (S : A → Spelling) (p : Parser A) → Reader S p → (ts us : Trees) (x : A) → answer_of (p ts) ≡ Some (x, us) → IsRead S ts x us
is_read S p h ts us x e = answered S ts us x (p ts) (h ts) e

-- a reader that reads the same of the same tokens reads nothing with ranges of trees without
pub natural_answer : {A : Type 0} (f : A → A) (read : Trees → Answer A) (ts us : Trees) (x : A) → read (unplaced ts) ≡ bare_answer f (read ts) →
    IsBare ts → read ts ≡ Some (x, us) → (f x ≡ x) × IsBare us
natural_answer f read ts us x n b e =
    some_pair_parts (f x) x (unplaced us) us (sym (ap (bare_answer f) e) ∙ sym n ∙ ap read b ∙ e)

-- ---- what was passed

-- the trees are left behind some tokens and delimiters
pub record IsFront (ts us : Trees) : Type 0 where
  pub front : List Entry
  pub splits : flatten ts ≡ front ++ flatten us

pub passed_front : (ts us : Trees) (front : List Entry) → flatten ts ≡ front ++ flatten us → passed ts us ≡ front
passed_front ts us front e =
    let fs : List Entry = flatten us in
    let n : length (front ++ fs) - length fs ≡ length front = omega (arith, length-append front fs) in
    ap (λ gs. take (length gs - length fs) gs) e ∙ ap (λ k. take k (front ++ fs)) n ∙ take-append_seam front fs

-- trees in front of others
pub joined_front : (ts own us : Trees) → ts ≡ join own us → flatten ts ≡ flatten own ++ flatten us
joined_front ts own us e = ap flatten e ∙ flatten-join own us

pub exact_answer : {A : Type 0} (trees_of : A → Trees) (ts us : Trees) (x : A) (o : Answer A) → exactly trees_of ts o ≡ Some (x, us) →
    (o ≡ Some (x, us)) × (has_entries (trees_of x) (passed ts us) ≡ true)
exact_answer {A} trees_of ts us x o e = tested_some {A = A × Trees} (λ a. has_entries (trees_of a.0) (passed ts a.1)) o (x, us) e

pub exact_spells : (own ts us : Trees) → IsFront ts us → has_entries own (passed ts us) ≡ true → IsBare own → IsBare us → IsBare ts → Spells own ts us
exact_spells own ts us f h o u b =
    let e : has_entries own f.front ≡ true = ap (has_entries own) (sym (passed_front ts us f.front f.splits)) ∙ h in
    sym b ∙ sym (same_split own us ts f.front f.splits e) ∙ unplaced-join own us ∙ ap₂ (λ x y. join x y) o u
