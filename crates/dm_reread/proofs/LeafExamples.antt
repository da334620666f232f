-- What is in the grammar: types and values of one name, a qualified path, and an implementation of one trait for one type.
use Rattle.std.specs.Prelude.{◌≡◌, ℕ, Bool, false, List, [], ◌∷◌, codes, Some, refl}
use Rattle.dm_stream.specs.declared.tokens.Token.TheVariants as t
use Rattle.dm_stream.specs.Layout.{nowhere}
use Rattle.dm_stream.specs.Trees.{Trees, no_trees, token}
use Rattle.dm_ast.specs.Tree.{TypeTree, type_tree, path, no_self, PathTree, path_tree, segment, segment_then, no_segments, absent}
use Rattle.dm_ast.specs.Spelling.{Where, Marks, Nothing, Before, sees, sees_word, sees_colons}
use Rattle.dm_ast.specs.TypeGrammar.{type_spelled, path_spelled, sees_arguments}
use Rattle.dm_reread.specs.Grammar.{IsName}
use Rattle.dm_reread.specs.Items.{HeadTree}
use Rattle.dm_reread.specs.TypeLeaves.{top, IsType}
use Rattle.dm_reread.specs.RunLeaves.{IsRun}
use Rattle.dm_reread.specs.HeadLeaves.{IsHead}
use Rattle.dm_reread.specs.ReadBack.{IsOutputItem}
use Rattle.dm_reread.proofs.Words.{plainly, name-path}

abbrev pub path_of : List ℕ → PathTree
path_of l = path_tree false (segment_then (segment (plainly l) absent) no_segments)

abbrev pub type_of : List ℕ → TypeTree
type_of l = type_tree (path no_self (path_of l)) nowhere

abbrev Named : List ℕ → Trees → Trees
Named l ts = token (t.Ident (plainly l)) ts

missing : (test : Trees → Bool) (ts : Trees) → test ts ≡ false → Before (λ others. test others ≡ false) Nothing ts ts []
missing test ts e = record { part = record { spelled = refl; marks = refl }; fact = e }

-- before what goes on with no path
one_path : (l : List ℕ) → IsName (plainly l) → (w : Where) (ts : Trees) → sees_colons ts ≡ false → sees_arguments ts ≡ false →
    path_spelled (path_of l) w (Named l ts) ts ((w.level, nowhere) ∷ [])
one_path l h w ts e f =
    record {
      middle = Named l ts;
      first_marks = [];
      rest_marks = (w.level, nowhere) ∷ [];
      first = missing sees_colons (Named l ts) refl;
      rest = record {
        middle = ts;
        first_marks = (w.level, nowhere) ∷ [];
        rest_marks = [];
        first = record {
          middle = ts;
          first_marks = (w.level, nowhere) ∷ [];
          rest_marks = [];
          first = record { fact = name-path (plainly l) h; part = record { spelled = refl; marks = refl } };
          rest = missing sees_arguments ts f;
          marks = refl;
        };
        rest = missing sees_colons ts e;
        marks = refl;
      };
      marks = refl;
    }

one_type : (l : List ℕ) → IsName (plainly l) → type_spelled (type_of l) false top (Named l no_trees) no_trees ((0, nowhere) ∷ [])
one_type l h = record { part = record { fact = refl; part = one_path l h top no_trees refl refl }; is_range = refl }

-- a name is a type
pub is_type : (l : List ℕ) → IsName (plainly l) → IsType (type_of l)
is_type l h =
    record {
      unplaced = refl;
      spelled = record {
        like = type_of l;
        same = refl;
        single = false;
        place = top;
        trees = Named l no_trees;
        others = no_trees;
        marks = (0, nowhere) ∷ [];
        spelled = one_type l h;
        within = refl;
      };
    }

-- and a value
pub is_run : (l : List ℕ) → IsRun (Named l no_trees)
is_run l = record { one = refl; closed = refl }

-- `A for B`
abbrev pub head_of_names : List ℕ → List ℕ → HeadTree
head_of_names l k = record { params = []; trait_path = Some (path_of l); ty = type_of k; predicates = [] }

pub is_head : (l k : List ℕ) → IsName (plainly l) → IsName (plainly k) → IsHead (head_of_names l k)
is_head l k h g =
    let last : Trees = Named k no_trees in
    let behind : Trees = token (t.Ident (plainly (codes "for"))) last in
    let one : Marks = (0, nowhere) ∷ [] in
    record {
      marks = (0, nowhere) ∷ (0, nowhere) ∷ one;
      spelled = record {
        middle = Named l behind;
        first_marks = [];
        rest_marks = (0, nowhere) ∷ (0, nowhere) ∷ one;
        first = record { fact = λ e. refl; part = missing (sees 60) (Named l behind) refl };
        rest = record {
          middle = last;
          first_marks = (0, nowhere) ∷ one;
          rest_marks = one;
          first = record {
            middle = behind;
            first_marks = one;
            rest_marks = one;
            first = one_path l h top behind refl refl;
            rest = record { range = nowhere; there = record { spelled = refl; marks = refl } };
            marks = refl;
          };
          rest = record {
            middle = no_trees;
            first_marks = one;
            rest_marks = [];
            first = one_type k g;
            rest = missing (sees_word (codes "where")) no_trees refl;
            marks = refl;
          };
          marks = refl;
        };
        marks = refl;
      };
      within = refl;
      plain = refl;
    }

-- `impl A for B {}`
pub is_item : (l k : List ℕ) → IsName (plainly l) → IsName (plainly k) →
    IsOutputItem
    (record { attrs = []; params = []; trait_path = Some (path_of l); ty = type_of k; predicates = []; assocs = []; methods = [] })
is_item l k h g = (is_head l k h g, (tt, tt))
