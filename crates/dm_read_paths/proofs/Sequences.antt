-- Parts behind one another in a spelling: in another grouping, or with another part.
use Rattle.std.proofs.Common.{[], ◌++◌, refl, sym, ap, ◌∙◌, append_assoc, append-nil}
use Rattle.dm_stream.specs.declared.tokens.Delim.{Delim}
use Rattle.dm_stream.specs.Trees.{Trees, no_trees}
use Rattle.dm_ast.specs.Spelling.{Where, Marks, Spelling, ◌then◌, GroupAt}
use Rattle.dm_ast.specs.Readers.{inside_at}

module _ (P Q R : Spelling) (ts o : Trees) (m : Marks) where
  pub then_right : ((P then Q) then R) ts o m → (P then (Q then R)) ts o m
  then_right s =
      record {
        middle = s.first.middle;
        first_marks = s.first.first_marks;
        rest_marks = s.first.rest_marks ++ s.rest_marks;
        first = s.first.first;
        rest = record { middle = s.middle; first_marks = s.first.rest_marks; rest_marks = s.rest_marks; first = s.first.rest; rest = s.rest; marks = refl };
        marks = s.marks ∙ ap (λ l. l ++ s.rest_marks) s.first.marks ∙ append_assoc s.first.first_marks s.first.rest_marks s.rest_marks;
      }

  pub then_left : (P then (Q then R)) ts o m → ((P then Q) then R) ts o m
  then_left s =
      record {
        middle = s.rest.middle;
        first_marks = s.first_marks ++ s.rest.first_marks;
        rest_marks = s.rest.rest_marks;
        first = record { middle = s.middle; first_marks = s.first_marks; rest_marks = s.rest.first_marks; first = s.first; rest = s.rest.first; marks = refl };
        rest = s.rest.rest;
        marks = s.marks ∙ ap (λ l. s.first_marks ++ l) s.rest.marks ∙ sym (append_assoc s.first_marks s.rest.first_marks s.rest.rest_marks);
      }

-- with another part behind the first
pub then_with : {P Q R : Spelling} {ts o : Trees} {m : Marks} (s : (P then Q) ts o m) → R s.middle o s.rest_marks → (P then R) ts o m
then_with s r = record { middle = s.middle; first_marks = s.first_marks; rest_marks = s.rest_marks; first = s.first; rest = r; marks = s.marks }

pub then_map : {P Q R : Spelling} {ts o : Trees} {m : Marks} → ((mid : Trees) (k : Marks) → Q mid o k → R mid o k) → (P then Q) ts o m → (P then R) ts o m
then_map f s = then_with s (f s.middle s.rest_marks s.rest)

-- before a part without tokens
pub then_nothing : {P Q : Spelling} {ts o : Trees} {m : Marks} → P ts o m → Q o o [] → (P then Q) ts o m
then_nothing {P} {Q} {ts} {o} {m} p q = record { middle = o; first_marks = m; rest_marks = []; first = p; rest = q; marks = sym (append-nil m) }

-- another inside of a group
pub group_with : {w : Where} {d : Delim} {P Q : Where → Spelling} {ts o : Trees} {m : Marks} (s : GroupAt w d P ts o m) →
    Q (inside_at w s.closer.start) s.inside no_trees s.inner_marks → GroupAt w d Q ts o m
group_with s q =
    record { opener = s.opener; inside = s.inside; closer = s.closer; inner_marks = s.inner_marks; spelled = s.spelled; whole = q; marks = s.marks }
