-- What stands between `impl` and the brace comes back from its tokens.
use Rattle.std.proofs.Common.{◌≡◌, Bool, true, false, List, [], ◌∷◌, ◌++◌, codes, Option, Some, None, T, refl, sym, ap, ◌∙◌}
use Rattle.dm_stream.specs.declared.tokens.Span.{Span}
use Rattle.dm_stream.specs.declared.tokens.Delim.TheVariants.{Brace}
use Rattle.dm_stream.specs.declared.tokens.Token.TheVariants as t
use Rattle.dm_stream.specs.Trees.{Trees, no_trees, token, group, join, join-no_trees}
use Rattle.dm_ast.specs.Tree.{TypeTree, type_tree, path, no_self, PathTree}
use Rattle.dm_ast.specs.Declarations.{Listed, PredicateTree}
use Rattle.dm_ast.specs.Spelling.{Where, Marks, Spelling, ◌then◌, first_too_deep, range_of, sees_word, keyword}
use Rattle.dm_ast.specs.TypeGrammar.{sees_macro, type_spelled, path_spelled, bound}
use Rattle.dm_ast.specs.DeclarationGrammar.{generics, where_clause}
use Rattle.dm_ast.specs.Readers.{tail}
use Rattle.dm_ast.specs.Runs.{run, read_run}
use Rattle.dm_read.specs.DeclarationReaders as decl
use Rattle.dm_read.proofs.Deciding.{Reader, deep_behind, deep_front}
use Rattle.dm_read_paths.specs.WholeReaders.{whole_type, whole_bound, parts}
use Rattle.dm_grammar_laws.proofs.TypeTheorem.{type_decided, bound_decided}
use Rattle.dm_grammar_laws.proofs.DeclarationParts.{AreDecided}
use Rattle.dm_grammar_laws.proofs.DeclarationGenerics.{reads_generics, reads_where}
use Rattle.dm_grammar_laws.proofs.DeclarationRules.{parts_decided}
use Rattle.dm_grammar_laws.proofs.Runs.{reads_run}
use Rattle.dm_reread.specs.Next.{Next, in_braces, kind, next}
use Rattle.dm_reread.specs.Leaves.{ends_type}
use Rattle.dm_reread.specs.Items.{HeadTree, between_trees}
use Rattle.dm_reread.specs.ItemGrammar.{ends_head}
use Rattle.dm_reread.specs.TypeLeaves.{top, read_type}
use Rattle.dm_reread.specs.HeadLeaves.{read_generics, read_where, predicates_in, read_named, read_head, is_some_params, listed, clause_of, trait_spelled, head_spelled, IsHead}
use Rattle.dm_reread.proofs.TypeLeafEnds.{Stop, stop_end, stop_punct, stop_brace, stop_word, ends_word, ends_stop, stop_cases}
use Rattle.dm_reread.proofs.TypeLeafParts.{ExtendsIf, Extends, ext_then, ext_before, ext_nothing, ext_word}
use Rattle.dm_reread.proofs.TypeLeafCalls.{calm_end, calm_word, uncalled_path}
use Rattle.dm_reread.proofs.TypeLeafTypes.{Bounded, ext_type, ext_path}
use Rattle.dm_reread.proofs.TypeLeaf.{decided_answer, whole_decided}
use Rattle.dm_reread.proofs.HeadLeafParts.{before_maybe, ext_generics, ext_clause}

-- ---- the readers of declarations decide parameters and predicates

bound_whole : (w : Where) → Reader (λ b. bound b w) (whole_bound w)
unfolding whole_bound
bound_whole w = bound_decided w

type_whole : (w : Where) → Reader (λ x. type_spelled x false w) (whole_type w)
unfolding whole_type
type_whole w = type_decided w

are_decided : AreDecided run parts
are_decided = parts_decided run whole_type whole_bound read_run type_whole bound_whole reads_run

pub generics_decided : Reader (λ v. generics v.0 v.1 top) (decl.read_generics parts top)
generics_decided = reads_generics run parts are_decided top

pub where_decided : Reader (λ c. where_clause c top) (decl.read_where parts top)
where_decided = reads_where run parts are_decided top

-- ---- marks that are not too deep

front_within : (m k : Marks) → first_too_deep (m ++ k) ≡ None → first_too_deep m ≡ None
front_within m k h = by (first_too_deep m) refl
  where
    by : (o : Option Span) → first_too_deep m ≡ o → o ≡ None
    by None e = refl
    by (Some s) e = let f : first_too_deep (m ++ k) ≡ Some s = deep_front m k s e in absurd (cc)

behind_within : (m k : Marks) → first_too_deep (m ++ k) ≡ None → first_too_deep k ≡ None
behind_within m k h = sym (deep_behind m k (front_within m k h)) ∙ h

module _ {A B : Spelling} {ts others : Trees} {m : Marks} (s : (A then B) ts others m) (h : first_too_deep m ≡ None) where
  pub first_within : first_too_deep s.first_marks ≡ None
  first_within = front_within s.first_marks s.rest_marks (sym (ap first_too_deep s.marks) ∙ h)

  pub rest_within : first_too_deep s.rest_marks ≡ None
  rest_within = behind_within s.first_marks s.rest_marks (sym (ap first_too_deep s.marks) ∙ h)

-- ---- a type, and perhaps a trait before it

-- where predicates may follow no `for` does
no_for : (c : Option (Listed PredicateTree)) (ts others : Trees) (m : Marks) → where_clause c top ts others m →
    sees_word (codes "for") others ≡ false →
    sees_word (codes "for") ts ≡ false
no_for None ts others m s h = ap (sees_word (codes "for")) s.part.spelled ∙ h
no_for (Some ps) ts others m s h = ap (sees_word (codes "for")) s.first.there.spelled

type_read : (x : TypeTree) (ts others : Trees) (m : Marks) → type_spelled x false top ts others m → first_too_deep m ≡ None →
    read_type ts ≡ Some (x, others)
type_read x ts others m s h = decided_answer (λ u. type_spelled u false top) ts others x m (whole_type top ts) (whole_decided ts) s h

-- a path before `for` is a type
path_read : (p : PathTree) (ts mid others : Trees) (m k : Marks) → path_spelled p top ts mid m → keyword top (codes "for") mid others k →
    first_too_deep m ≡ None →
    read_type ts ≡ Some (type_tree (path no_self p) (range_of m), mid)
path_read p ts mid others m k s f h =
    let e : sees_macro (join ts no_trees) ≡ false =
    uncalled_path no_trees stop_end p top ts mid m s (calm_word no_trees stop_end top (codes "for") mid others k f) in
    type_read (type_tree (path no_self p) (range_of m)) ts mid m
    (record { part = record { fact = ap sees_macro (sym (join-no_trees ts)) ∙ e; part = s }; is_range = refl }) h

for_seen : (ts others : Trees) (m : Marks) → keyword top (codes "for") ts others m → sees_word (codes "for") ts ≡ true
for_seen ts others m s = ap (sees_word (codes "for")) s.there.spelled

-- what is read, and what spells the predicates behind it
record Named (o : Option PathTree) (x : TypeTree) (c : Option (Listed PredicateTree)) (ts others : Trees) : Type 0 where
  middle : Trees
  marks : Marks
  read : read_named ts ≡ Some ((o, x), middle)
  rest : where_clause c top middle others marks
  within : first_too_deep marks ≡ None

named : (o : Option PathTree) (x : TypeTree) (c : Option (Listed PredicateTree)) (ts others : Trees) (m : Marks) →
    (trait_spelled o top then (type_spelled x false top then where_clause c top)) ts others m → first_too_deep m ≡ None →
    sees_word (codes "for") others ≡ false → Named o x c ts others
named None x c ts others m s h f =
    let r = s.rest in
    let w : first_too_deep s.rest_marks ≡ None = rest_within s h in
    let e : read_type ts ≡ Some (x, r.middle) =
    ap read_type s.first.spelled ∙ type_read x s.middle r.middle r.first_marks r.first (first_within r w) in
    record {
      middle = r.middle;
      marks = r.rest_marks;
      read = rw (e, no_for c r.middle others r.rest_marks r.rest f) refl;
      rest = r.rest;
      within = rest_within r w;
    }
named (Some p) x c ts others m s h f =
    let a = s.first in
    let r = s.rest in
    let v : first_too_deep s.first_marks ≡ None = first_within s h in
    let w : first_too_deep s.rest_marks ≡ None = rest_within s h in
    let d = path_read p ts a.middle s.middle a.first_marks a.rest_marks a.first a.rest (first_within a v) in
    let e : read_type (tail a.middle) ≡ Some (x, r.middle) =
    ap (λ z. read_type (tail z)) a.rest.there.spelled ∙ type_read x s.middle r.middle r.first_marks r.first
    (first_within r w) in
    record {
      middle = r.middle;
      marks = r.rest_marks;
      read = rw (d, for_seen a.middle s.middle a.rest_marks a.rest, e) refl;
      rest = r.rest;
      within = rest_within r w;
    }

predicates_back : (ps : List PredicateTree) → predicates_in (clause_of ps) ≡ ps
predicates_back [] = refl
predicates_back (p ∷ ps) = refl

-- the parts one after another
all_read : (h : HeadTree) (b : Bool) (ts us vs others : Trees) → read_generics ts ≡ Some ((b, listed h.params), us) →
    read_named us ≡ Some ((h.trait_path, h.ty), vs) → read_where vs ≡ Some (clause_of h.predicates, others) →
    read_head ts ≡ Some (h, others)
all_read h b ts us vs others e x c =
    rw (e, x, c)
    (ap (λ (ps : List PredicateTree). Some (record { params = h.params; trait_path = h.trait_path; ty = h.ty; predicates = ps }, others))
    (predicates_back h.predicates))

-- ---- before a brace

module _ (f g : Span) (us vs : Trees) where
  abbrev rest : Trees
  rest = group Brace f us g vs

  ext_trait : (o : Option PathTree) (w : Where) → Extends (group Brace f us g vs) (trait_spelled o w)
  ext_trait None w = ext_nothing rest
  ext_trait (Some p) w =
      ext_before rest (λ mid others m s c. calm_word rest (stop_brace f g us vs) w (codes "for") mid others m s)
      (ext_path rest (stop_brace f g us vs) p w) (ext_word rest w (codes "for"))

  bounded_where : (w : Where) (ts others : Trees) (m : Marks) → keyword w (codes "where") ts others m →
      Bounded rest (stop_brace f g us vs) ts
  bounded_where w ts others m s = (
    calm_word rest (stop_brace f g us vs) w (codes "where") ts others m s,
    ap
        (λ x. sees_word (codes "for") (join x rest)) s.there.spelled,
  )

  ext_head : (h : HeadTree) (w : Where) → ExtendsIf (group Brace f us g vs) (Bounded (group Brace f us g vs) (stop_brace f g us vs))
      (head_spelled h w)
  ext_head h w =
      ext_then rest (ext_generics rest (stop_brace f g us vs) (is_some_params h.params) (listed h.params) w)
      (ext_then rest (ext_trait h.trait_path w)
      (ext_before rest
      (λ mid others m s c. (before_maybe rest (stop_brace f g us vs) (sees_word (codes "where")) (clause_of h.predicates)
      (λ ps ts o k r. bounded_where w ts r.middle r.first_marks r.first) mid others m s c).0)
      (ext_type rest (stop_brace f g us vs) h.ty false w) (ext_clause rest (stop_brace f g us vs) refl (clause_of h.predicates) w)))

  read_back : (h : HeadTree) → IsHead h → read_head (join (between_trees h) rest) ≡ Some (h, rest)
  read_back h i =
      let ts : Trees = join (between_trees h) rest in
      let s : head_spelled h top ts rest i.marks =
      ext_head h top (between_trees h) no_trees i.marks i.spelled (calm_end rest (stop_brace f g us vs), refl) in
      let e : read_generics ts ≡ Some ((is_some_params h.params, listed h.params), s.middle) =
      decided_answer (λ v. generics v.0 v.1 top) ts s.middle (is_some_params h.params, listed h.params) s.first_marks
      (decl.read_generics parts top ts)
      (generics_decided ts) s.first (first_within s i.within) in
      let x : Named h.trait_path h.ty (clause_of h.predicates) s.middle rest =
      named h.trait_path h.ty (clause_of h.predicates) s.middle rest s.rest_marks s.rest (rest_within s i.within) refl in
      let c : read_where x.middle ≡ Some (clause_of h.predicates, rest) =
      decided_answer (λ v. where_clause v top) x.middle rest (clause_of h.predicates) x.marks (decl.read_where parts top x.middle)
      (where_decided x.middle) x.rest x.within in
      all_read h (is_some_params h.params) ts s.middle x.middle rest e x.read c

head_type : (n : Next) → T (ends_head n) → T (ends_type n)
head_type (in_braces i ts) h = tt
head_type _ h = absurd h

head_by : (h : HeadTree) (rest : Trees) → IsHead h → Stop rest → T (ends_head (next rest)) →
    read_head (join (between_trees h) rest) ≡ Some (h, rest)
head_by h _ i stop_end e = absurd e
head_by h _ i (stop_punct p ts a o) e = absurd (stop_cases ends_head p ts a o e (λ q k. k) (λ k. k) (λ k. k) (λ k. k))
head_by h _ i (stop_brace f g us vs) e = read_back f g us vs h i
head_by h _ i (stop_word j ts q) e = absurd (ends_word (kind j) j ts (head_type (next (token (t.Ident j) ts)) e))

pub head_back : (h : HeadTree) (rest : Trees) → IsHead h → T (ends_head (next rest)) →
    read_head (join (between_trees h) rest) ≡ Some (h, rest)
head_back h rest i e = head_by h rest i (ends_stop rest (head_type (next rest) e)) e
