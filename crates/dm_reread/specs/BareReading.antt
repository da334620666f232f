-- What the reader gives, without ranges; and leaves that read the same wherever the tokens stand.
use Rattle.std.specs.Prelude.{◌≡◌, Bool, map, option_map}
use Rattle.dm_stream.specs.Trees.{Trees}
use Rattle.dm_lexer.specs.Written.{unplaced}
use Rattle.dm_ast.specs.Tree.{MaybeSelf, PathTree}
use Rattle.dm_type_eq.specs.Unplaced.{unplaced_ident, unplaced_literal, unplaced_path, unplaced_self, unplaced_type}
use Rattle.dm_reread.specs.Bare.{bare_member, bare_expr, bare_exprs, bare_param, bare_predicate, bare_param_of}
use Rattle.dm_reread.specs.Next.{Next, ended, oror, andand, equals, differs, star, amp, dot, asks, bangs, plus, less, hash, bar, comma, colon, semicolon, assigns, leads, arrow, colons, dots, in_parens, in_braces, in_brackets, literal, a_name, a_word, other}
use Rattle.dm_reread.specs.Leaves.{Answer, Leaves}
use Rattle.dm_reread.specs.Reading.{Posts, no_posts, p_member, p_call, p_map, p_map_err, p_question}
use Rattle.dm_reread.specs.Items.{HeadTree, ItemLeaves, Inputs}

-- what comes first, and the trees behind it
abbrev pub bare_next : Next → Next
bare_next ended = ended
bare_next (oror ts) = oror (unplaced ts)
bare_next (andand ts) = andand (unplaced ts)
bare_next (equals ts) = equals (unplaced ts)
bare_next (differs ts) = differs (unplaced ts)
bare_next (star ts) = star (unplaced ts)
bare_next (amp ts) = amp (unplaced ts)
bare_next (dot ts) = dot (unplaced ts)
bare_next (asks ts) = asks (unplaced ts)
bare_next (bangs ts) = bangs (unplaced ts)
bare_next (plus ts) = plus (unplaced ts)
bare_next (less ts) = less (unplaced ts)
bare_next (hash ts) = hash (unplaced ts)
bare_next (bar ts) = bar (unplaced ts)
bare_next (comma ts) = comma (unplaced ts)
bare_next (colon ts) = colon (unplaced ts)
bare_next (semicolon ts) = semicolon (unplaced ts)
bare_next (assigns ts) = assigns (unplaced ts)
bare_next (leads ts) = leads (unplaced ts)
bare_next (arrow ts) = arrow (unplaced ts)
bare_next (colons ts) = colons (unplaced ts)
bare_next (dots ts) = dots (unplaced ts)
bare_next (in_parens inside ts) = in_parens (unplaced inside) (unplaced ts)
bare_next (in_braces inside ts) = in_braces (unplaced inside) (unplaced ts)
bare_next (in_brackets inside ts) = in_brackets (unplaced inside) (unplaced ts)
bare_next (literal l ts) = literal (unplaced_literal l) (unplaced ts)
bare_next (a_name i ts) = a_name (unplaced_ident i) (unplaced ts)
bare_next (a_word w ts) = a_word w (unplaced ts)
bare_next other = other

-- what stands behind a receiver
abbrev pub bare_posts : Posts → Posts
bare_posts no_posts = no_posts
bare_posts (p_member x ps) = p_member (bare_member x) (bare_posts ps)
bare_posts (p_call i es ps) = p_call (unplaced_ident i) (bare_exprs es) (bare_posts ps)
bare_posts (p_map e ps) = p_map (bare_expr e) (bare_posts ps)
bare_posts (p_map_err o ps) = p_map_err (unplaced o) (bare_posts ps)
bare_posts (p_question ps) = p_question (bare_posts ps)

-- what is read, made bare by a function, and the trees that are left
abbrev pub bare_pair : {A : Type 0} → (A → A) → A × Trees → A × Trees
bare_pair f x = (f x.0, unplaced x.1)

-- the same, where something is read
abbrev pub bare_answer : {A : Type 0} → (A → A) → Answer A → Answer A
bare_answer f o = option_map (bare_pair f) o

-- what has no ranges, and the trees that are left
abbrev pub bare_rest : {A : Type 0} → A × Trees → A × Trees
bare_rest x = (x.0, unplaced x.1)

-- what is read, and whether a comma or `..` ends it
abbrev pub bare_last : {A : Type 0} → (A → A) → A × Bool → A × Bool
bare_last f x = (f x.0, x.1)

-- a qualified path
abbrev pub bare_qualified : MaybeSelf × PathTree → MaybeSelf × PathTree
bare_qualified x = (unplaced_self x.0, unplaced_path x.1)

-- what stands between `impl` and the brace
abbrev pub bare_head : HeadTree → HeadTree
bare_head h =
    record {
      params = map bare_param h.params;
      trait_path = option_map unplaced_path h.trait_path;
      ty = unplaced_type h.ty;
      predicates = map bare_predicate h.predicates;
    }

-- a receiver and a parameter
abbrev pub bare_inputs : Inputs → Inputs
bare_inputs x = (x.0, option_map bare_param_of x.1)

-- the leaves read the same of the same tokens, ranges aside
pub record NaturalLeaves (l : Leaves) : Type 0 where
  pub type : (ts : Trees) → l.type (unplaced ts) ≡ bare_answer unplaced_type (l.type ts)
  pub qualified : (ts : Trees) → l.qualified (unplaced ts) ≡ bare_answer bare_qualified (l.qualified ts)
  pub run : (ts : Trees) → l.run (unplaced ts) ≡ bare_answer unplaced (l.run ts)

-- and so does the reader of what stands between `impl` and the brace
pub record NaturalItems (l : ItemLeaves) : Type 0 where
  pub parts : NaturalLeaves l.parts
  pub head : (ts : Trees) → l.head (unplaced ts) ≡ bare_answer bare_head (l.head ts)
