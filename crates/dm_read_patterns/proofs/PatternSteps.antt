-- The rows of patterns.
use Rattle.std.proofs.Common.{◌≡◌, ℕ, Bool, true, false, cond, Option, Some, None, refl, ◌∙◌}
use Rattle.std.proofs.lemmas.Grind.{common_steps}
use Rattle.dm_stream.specs.declared.tokens.Delim.TheVariants.{Paren, Brace}
use Rattle.dm_stream.specs.declared.tokens.Ident.{Ident}
use Rattle.dm_stream.specs.declared.tokens.Literal.{Literal}
use Rattle.dm_stream.specs.Trees.{Trees, no_trees, token, group}
use Rattle.dm_ast.specs.Keywords.{is_name}
use Rattle.dm_ast.specs.Spelling.{at_end}
use Rattle.dm_ast.specs.Tree.{PathTree, path_tree, segment, no_segments, segment_then, absent, angle, parens}
use Rattle.dm_output.specs.declared.pattern.Binding.{Binding}
use Rattle.dm_output.specs.declared.pattern.Binding.TheVariants as binding
use Rattle.dm_output.specs.Output.{PatternTree, bind, path_pattern, str_pattern, pair_pattern}
use Rattle.dm_output.proofs.View.{view_steps}
use Rattle.dm_read_places.specs.declared.front.Sign.TheVariants as sign
use Rattle.dm_read_places.specs.declared.front.Keyword.TheVariants as keyword
use Rattle.dm_read_places.specs.declared.list.Turn.{Turn}
use Rattle.dm_read_places.specs.declared.list.Turn.TheVariants.{One, End}
use Rattle.dm_reread.specs.Next.{k_mut, k_wild, k_ref, Next, ended, bar, dots, in_parens, in_braces, literal, a_name, a_word, next}
use Rattle.dm_reread.specs.Leaves.{Answer}
use Rattle.dm_reread.specs.Reading.{then, provided, whole, Readers, comma_after, colon_after, is_str, bind_name, ref_from, pattern_of_path, after_pattern_path, pattern_path, pair_from, read_pattern}
use Rattle.dm_read_places.specs.Fronts.{is_sign, is_keyword, is_literal_next, is_group_next}
use Rattle.dm_read_places.specs.Turns.{rows, declared_at}
use Rattle.dm_read_places.proofs.Expecting.{whole_open}
use Rattle.dm_read_places.proofs.Thens.{then_on}
use Rattle.dm_read_patterns.specs.PatternTurns.{bar_turn_at, pattern_turn, dots_turn, one_named_pattern, named_pattern_turn_at}
use Rattle.dm_read_patterns.specs.PatternRows.{before_comma, field, pair, text, declared_name, name_or_path}
use Rattle.dm_read_patterns.proofs.PatternLists.{bars_are, patterns_are, named_patterns_are}

-- ---- turns

pub pattern_end : (n : ℕ) (ts : Trees) → at_end ts ≡ true → pattern_turn n ts ≡ Some (End tt, ts)
pattern_end n no_trees e = refl
pattern_end n _ e = absurd (cc)

abbrev PartTurn : Type 0
PartTurn = Turn PatternTree (Unit {0}) × Trees

-- a part, where it was read
abbrev OnePart : Answer PatternTree → Option PartTurn
OnePart o = then o (λ a. Some (One a.0, a.1))

one_before : (o : Answer PatternTree) →
    then {B = PartTurn} o (λ a. then (comma_after (next a.1)) (λ us. Some (One a.0, us))) ≡
    OnePart (then o (λ a. then (comma_after (next a.1)) (λ us. Some (a.0, us))))
one_before o = then_on OnePart refl o _ _ (λ a. then_on OnePart refl (comma_after (next a.1)) _ _ (λ us. refl))

pub pattern_more : (n : ℕ) (ts : Trees) → at_end ts ≡ false →
    pattern_turn n ts ≡ then {A = PatternTree × Trees} {B = PartTurn} (before_comma n ts) (λ a. Some (One a.0, a.1))
pattern_more n no_trees e = absurd (cc)
pattern_more n (token k ts) e = one_before ((rows n).pattern (token k ts))
pattern_more n (group d from inside upto ts) e = one_before ((rows n).pattern (group d from inside upto ts))

pub bars_end : (n : ℕ) (ts : Trees) (m : Next) → is_sign sign.Bar m ≡ false → bar_turn_at n ts m ≡ Some (End tt, ts)
bars_end n ts (bar us) e = absurd (cc)
bars_end n ts _ e = refl

pub fields_end : (n : ℕ) (ts : Trees) → at_end ts ≡ true → named_pattern_turn_at n ts (next ts) ≡ Some (End false, ts)
fields_end n no_trees e = refl
fields_end n _ e = absurd (cc)

pub dots_end : (ts : Trees) → ts ≡ no_trees → dots_turn ts ≡ Some (End true, ts)
dots_end no_trees e = refl
dots_end _ e = absurd (cc)

pub dots_open : (ts : Trees) → at_end ts ≡ false → dots_turn ts ≡ None
dots_open no_trees e = absurd (cc)
dots_open _ e = refl

abbrev FieldTurn : Type 0
FieldTurn = Turn (Ident × PatternTree) Bool × Trees

-- a field, and one of this name, where it was read
abbrev OneField : Answer (Ident × PatternTree) → Option FieldTurn
OneField o = then o (λ a. Some (One a.0, a.1))

abbrev NamedField : Ident → Answer PatternTree → Option FieldTurn
NamedField i o = OneField (then o (λ a. Some ((i, a.0), a.1)))

field_here : (n : ℕ) (ts : Trees) →
    one_named_pattern n (next ts) ≡ then {A = (Ident × PatternTree) × Trees} {B = FieldTurn} (field n ts) (λ a. Some (One a.0, a.1))
field_here n ts =
    then_on OneField refl (declared_at (next ts)) _ _ (λ s.
    then_on (NamedField s.0) refl (colon_after (next s.1)) _ _ (λ us.
    then_on (NamedField s.0) refl ((rows n).pattern us) _ _ (λ a. then_on (NamedField s.0) refl (comma_after (next a.1)) _ _ (λ vs. refl))))

not_ended : (n : ℕ) (ts : Trees) (m : Next) → is_sign sign.Dots m ≡ false → (m ≡ ended → ⊥) → named_pattern_turn_at n ts m ≡ one_named_pattern n m
not_ended n ts ended e f = absurd (f refl)
not_ended n ts (dots us) e f = absurd (cc)
not_ended n ts _ e f = refl

pub field_more : (n : ℕ) (ts : Trees) → at_end ts ≡ false → is_sign sign.Dots (next ts) ≡ false → (next ts ≡ ended → ⊥) →
    named_pattern_turn_at n ts (next ts) ≡ then {A = (Ident × PatternTree) × Trees} {B = FieldTurn} (field n ts) (λ a. Some (One a.0, a.1))
field_more n ts e f g = not_ended n ts (next ts) f g ∙ field_here n ts

-- ---- rows

pub bind_is : (how : Binding) (n : Next) →
    bind_name how n ≡ then {A = Ident × Trees} {B = PatternTree × Trees} (declared_at n) (λ s. Some (bind how s.0, s.1))
bind_is how (a_name i ts) = by (is_name i)
  where
    by : (b : Bool) →
        provided b (Some (bind how i, ts)) ≡
        then {A = Ident × Trees} {B = PatternTree × Trees} (provided b (Some (i, ts))) (λ s. Some (bind how s.0, s.1))
    by true = refl
    by false = refl
bind_is how _ = refl

pub no_mut : (n : Next) → is_keyword keyword.Mut n ≡ false → ref_from n ≡ bind_name binding.Ref n
no_mut (a_word k_mut ts) e = absurd (cc)
no_mut _ e = refl

pub no_group_behind : (r : Readers) (p : PathTree) (ts : Trees) (n : Next) → is_group_next Paren n ≡ false → is_group_next Brace n ≡ false →
    after_pattern_path r p ts n ≡ Some (pattern_of_path p, ts)
no_group_behind r p ts (in_parens inside us) e f = absurd (cc)
no_group_behind r p ts (in_braces inside us) e f = absurd (cc)
no_group_behind r p ts _ e f = refl

-- a pattern, and the trees that are left
abbrev Left : Trees → Option PatternTree → Answer PatternTree
Left ts o = then o (λ e. Some (e, ts))

pub pair_is : (n : ℕ) (inside ts : Trees) →
    pair_from (rows n) inside ts ≡ then {A = PatternTree} {B = PatternTree × Trees} (pair n inside) (λ e. Some (e, ts))
pair_is n inside ts =
    then_on (Left ts) refl ((rows n).pattern inside) _ _ (λ a.
    then_on (λ o. Left ts (then o (λ c. Some (pair_pattern a.0 c)))) refl (comma_after (next a.1)) _ _ (λ us.
    then_on (Left ts) refl (whole ((rows n).pattern us)) _ _ (λ c. refl)))

pub text_is : (r : Readers) (l : Literal) (ts : Trees) →
    read_pattern r (literal l ts) ≡ then {A = PatternTree} {B = PatternTree × Trees} (text l) (λ e. Some (e, ts))
text_is r l ts = by (is_str l.kind)
  where
    by : (b : Bool) →
        provided b (Some (str_pattern l, ts)) ≡
        then {A = PatternTree} {B = PatternTree × Trees} (provided b (Some (str_pattern l))) (λ e. Some (e, ts))
    by true = refl
    by false = refl

pub path_first : (r : Readers) (n : Next) → is_keyword keyword.Wild n ≡ false → is_keyword keyword.Ref n ≡ false → is_group_next Paren n ≡ false →
    is_literal_next n ≡ false →
    read_pattern r n ≡ pattern_path r n
path_first r (a_word k_wild ts) e f g h = absurd (cc)
path_first r (a_word k_ref ts) e f g h = absurd (cc)
path_first r (in_parens inside ts) e f g h = absurd (cc)
path_first r (literal l ts) e f g h = absurd (cc)
path_first r _ e f g h = refl

pub ruleset pattern_steps = (common_steps, pattern_end, pattern_more, bars_end, fields_end, dots_end, dots_open, field_more, bind_is, no_mut, no_group_behind, whole_open, pair_is, text_is, path_first, bars_are, patterns_are, named_patterns_are)

-- a name alone
named : (i : Ident) (p : PathTree) (b : Bool) → cond b (bind binding.Plain i) (path_pattern p) ≡ name_or_path (provided b (Some i)) p
named i p true = refl
named i p false = refl

pub name_or_path_is : (p : PathTree) → pattern_of_path p ≡ name_or_path (declared_name p) p
name_or_path_is (path_tree false (segment_then (segment i absent) no_segments)) =
    named i (path_tree false (segment_then (segment i absent) no_segments)) (is_name i)
name_or_path_is (path_tree false (segment_then (segment i absent) (segment_then t ss))) = refl
name_or_path_is (path_tree false (segment_then (segment i (angle d xs u)) no_segments)) = refl
name_or_path_is (path_tree false (segment_then (segment i (angle d xs u)) (segment_then t ss))) = refl
name_or_path_is (path_tree false (segment_then (segment i (parens xs u o)) no_segments)) = refl
name_or_path_is (path_tree false (segment_then (segment i (parens xs u o)) (segment_then t ss))) = refl
name_or_path_is (path_tree false no_segments) = refl
name_or_path_is (path_tree true ss) = refl

pub ruleset path_steps = (view_steps, name_or_path_is)
