-- Bare paths: what their reader decides, where the readers of generic arguments and of the types in them decide those.
use Rattle.std.proofs.Common.{◌≡◌, Bool, true, false, [], Ok, refl, sym, ap, ◌∙◌, arith}
use Rattle.dm_stream.specs.Trees.{Trees}
use Rattle.dm_read_paths.specs.declared.kind.Mode.{Mode}
use Rattle.dm_ast.specs.Spelling.{Where, deeper, Marks, Spelling, Nothing, ◌then◌, Before, sees, sees_colons, punct, colons, flag}
use Rattle.dm_ast.specs.TypeGrammar.{arguments, sees_turbofish, behind_colons}
use Rattle.dm_ast.specs.Tree.{TypeTree, ArgumentsTree, absent, angle, parens}
use Rattle.dm_read_paths.specs.BarePaths.{bare_arguments, bare_segment, bare_segments, bare_segments_left, bare_path, read_bare_path}
use Rattle.dm_ast.specs.Readers.{Parser, ◌and◌}
use Rattle.dm_ast.specs.PlainReaders.{read_leading, read_angles}
use Rattle.dm_read_paths.specs.TypeReaders.{sees_angled, angle_of, read_arguments, read_angled, read_bare_arguments, read_type}
use Rattle.dm_read.proofs.Deciding.{Same, Reader, Image, pair, decides_by, decides_test}
use Rattle.dm_read.proofs.Tokens.{punct_seen, both_true}
use Rattle.dm_read.proofs.Groups.{pair_seen}
use Rattle.dm_read_paths.proofs.PlainParts.{decides_nothing, leading_behind}
use Rattle.dm_read_paths.proofs.Paths.{or_first, or_second, Angled, reads_angled, reads_path_by}
use Rattle.dm_read_paths.proofs.ArgumentRules.{reads_arguments}
use Rattle.dm_grammar_laws.proofs.TypeTheorem.{reads_type}

-- ---- arguments of a segment

angle_begins : (w : Where) (double : Bool) (Rest : Spelling) (ts o : Trees) (m : Marks) → (flag sees_colons double (colons w) then (punct w 60 then Rest)) ts o m →
    sees_angled ts ≡ true
angle_begins w true Rest ts o m s =
    let b : behind_colons ts ≡ s.middle = leading_behind w true ts s.middle s.first_marks s.first in
    let c : sees 60 (behind_colons ts) ≡ true = ap (sees 60) b ∙ punct_seen 60 w s.middle s.rest.middle s.rest.first_marks s.rest.first in
    let d : sees_turbofish ts ≡ true = both_true (sees_colons ts) (sees 60 (behind_colons ts)) (pair_seen 58 58 w ts s.middle s.first_marks s.first) c in
    or_second (sees 60 ts) (sees_turbofish ts) d
angle_begins w false Rest ts o m s =
    let b : sees 60 ts ≡ true = ap (sees 60) s.first.part.spelled ∙ punct_seen 60 w s.middle s.rest.middle s.rest.first_marks s.rest.first in
    or_first (sees 60 ts) (sees_turbofish ts) b

absent_no : (ts o : Trees) (m : Marks) → sees_angled ts ≡ true → Before (λ others. sees_angled others ≡ false) Nothing ts o m → ⊥
absent_no ts o m e s = let f : sees_angled ts ≡ false = ap sees_angled s.part.spelled ∙ s.fact in absurd (cc)

module _ (w : Where) (ts : Trees) where
  angle_back : sees_angled ts ≡ true → (y : ArgumentsTree) (o : Trees) (m : Marks) → bare_arguments y w ts o m → Image angle_of (Angled w) y ts o m
  angle_back e absent o m s = absurd (absent_no ts o m e s)
  angle_back e (angle double gs u) o m s = record { value = pair double (pair gs u); is_it = refl; spelled = s }
  angle_back e (parens xs u out) o m s = absurd s.fact

  absent_only : sees_angled ts ≡ false → (y : ArgumentsTree) (o : Trees) (m : Marks) → bare_arguments y w ts o m → Same absent ts [] y o m
  absent_only e absent o m s = record { value = refl; left = sym s.part.spelled; marks = s.part.marks }
  absent_only e (angle double gs u) o m s =
      let f = angle_begins w double (arguments gs u (deeper w) then punct w 62) ts o m s in
      absurd (cc)
  absent_only e (parens xs u out) o m s = absurd s.fact

-- ---- what the readers decide

module _ (inner : Mode → Where → Parser TypeTree) (w : Where) (args : Reader (λ r. arguments r.0 r.1 (deeper w)) (read_arguments inner (deeper w))) where
  reads_bare_arguments : Reader (λ y. bare_arguments y w) (read_bare_arguments inner w)
  reads_bare_arguments ts =
      decides_test (λ y. bare_arguments y w) ts (sees_angled ts) (read_angled inner w ts) (Ok (absent, ts))
      (λ e. decides_by angle_of (Angled w) (λ y. bare_arguments y w) ts (λ x o m s. s) (angle_back w ts e) ((read_leading w and read_angles (read_arguments inner) w) ts) (reads_angled inner w args ts))
      (λ e. decides_nothing (λ y. bare_arguments y w) absent ts (record { part = record { spelled = refl; marks = refl }; fact = e }) (absent_only w ts e))

  pub reads_bare_path : Reader (λ p. bare_path p w) (read_bare_path inner w)
  reads_bare_path =
      reads_path_by inner true w (λ a. bare_arguments a w) (λ y. bare_segment y w) (λ ss. bare_segments_left ss w) (λ ss. bare_segments ss w) (λ p. bare_path p w)
      (λ i a. refl) refl (λ x xs. refl) refl (λ x xs. refl) (λ b ss. refl) reads_bare_arguments

-- types in them nest as deep as their levels may go
pub bare_decided : (w : Where) → Reader (λ p. bare_path p w) (read_bare_path (read_type 129) w)
bare_decided w =
    reads_bare_path (read_type 129) w
    (reads_arguments (read_type 129) w.level (deeper w) (omega arith) (λ mode v below. reads_type 129 mode v (omega (arith, below))))
