-- What stands first in an expression: what is read of it is in the grammar, and has the tokens that were read.
use Rattle.std.specs.Prelude.{◌≡◌, Bool, true, false, T, codes, Some, refl}
use Rattle.std.proofs.Common.{ap, ◌∙◌, subst}
use Rattle.dm_stream.specs.declared.tokens.Delim.TheVariants.{Paren, Brace}
use Rattle.dm_stream.specs.Layout.{nowhere}
use Rattle.dm_stream.specs.Trees.{Trees, join, join-no_trees}
use Rattle.dm_ast.specs.Keywords.{is_name}
use Rattle.dm_ast.specs.Tree.{MaybeSelf, no_self, some_self, PathTree}
use Rattle.dm_ast.specs.TypeTokens.{path_trees}
use Rattle.dm_output.specs.Output.{ExprTree, path_expr, build_named, paren, tuple, opaque_call, str_expr, bool, match_expr, unsafe_expr, write_expr, format_args, ExprTrees, no_exprs, expr_then}
use Rattle.dm_output.specs.Tokens as k
use Rattle.dm_output.specs.Tokens.{expr_trees, path_expr_trees}
use Rattle.dm_reread.specs.Next.{Word, k_match, k_unsafe, k_true, k_false, Next, less, bangs, colons, in_parens, in_braces, literal, a_name, a_word, next}
use Rattle.dm_reread.specs.Leaves.{LeafGrammar}
use Rattle.dm_reread.specs.Reading.{Readers, comma_after, read_fmt, is_str, is_some_trees, plain_path, called, is_macro_path, write_from, macro_from, after_path, path_base, qualified_base, tuple_of, unsafe_of, match_of, word_base, group_from, read_base}
use Rattle.dm_reread.specs.Grammar.{at_or, at_post, Fits, IsPlainPath, IsPath, is_any, IsExpr, Each}
use Rattle.dm_read_laws.specs.Sound.{IsBare, Spells, is_qualified}
use Rattle.dm_read_laws.proofs.SoundRows.{Sound}
use Rattle.dm_read_laws.proofs.SoundSteps.{bare_rest, bare_own, Front, WordFront, Begins, next_begins}
use Rattle.dm_read_laws.proofs.SoundFronts.{Gives, gives_some, gives_none, gives_then, gives_provided, gives_cond, gives_after, gives_whole, behind, ends_with, kept, AnOperand, reads_expr, reads_named, reads_arms}
use Rattle.dm_read_laws.proofs.SoundArguments.{args_trees, args_row}
use Rattle.dm_read_laws.proofs.SoundPaths.{plain_path_sound}
use Rattle.dm_read_laws.proofs.SoundFormats.{macro_sound}
use Rattle.dm_read_laws.proofs.SoundPatterns.{str_kind}

pub holds : (c : Bool) → c ≡ true → T c
holds true e = tt
holds false e = absurd (cc)

is_called : (g : LeafGrammar) (b : Bool) (q : MaybeSelf) (p : PathTree) (es : ExprTrees) (last : Bool) → IsPath g q p →
    (last ≡ true → T (is_any es)) → Each g at_or true es →
    IsExpr g b (called q p es last) × Fits at_post (called q p es last)
is_called g b q p es true c any h = ((c, (any refl, h)), tt)
is_called g b q p es false c any h = ((c, h), tt)

called_trees : (q : MaybeSelf) (p : PathTree) (es : ExprTrees) (last : Bool) →
    join (path_expr_trees q p) (k.enclosed Paren (args_trees es last)) ≡ expr_trees (called q p es last)
called_trees q p es true = refl
called_trees q p es false = refl

qualified_path : (g : LeafGrammar) (q : MaybeSelf) (p : PathTree) → T (is_qualified q) → g.IsQualified q p → IsPath g q p
qualified_path g no_self p c h = absurd c
qualified_path g (some_self t position) p c h = h

module _ (g : LeafGrammar) (r : Readers) (S : Sound g r) where
  -- ---- paths and calls

  pub plain_row : (ts : Trees) (x : Next) → IsBare ts → Begins ts x →
      Gives (plain_path r x) (λ a. IsPlainPath a.0 × Front (path_trees nowhere a.0) ts a.1)
  plain_row ts x h f = record { at = λ a e. kept (path_trees nowhere a.0) ts a.1 h (plain_path_sound g r S ts a.1 x a.0 f e) }

  write_fits : (x : Next) → Gives (write_from r x) (λ e. Fits at_post e)
  write_fits (a_name i ts) =
      gives_provided (is_name i) (λ c.
      gives_after (comma_after (next ts)) (λ us. gives_after (read_fmt r (next us)) (λ f. gives_some (write_expr i f) tt)))
  write_fits _ = gives_none

  macro_fits : (p : PathTree) (x : Next) → Gives (macro_from r p x) (λ a. Fits at_post a.0)
  macro_fits p (in_parens inside ts) =
      gives_then {P = λ e. Fits at_post e}
      (gives_cond (is_macro_path (codes "write") p) (λ c. write_fits (next inside))
      (λ c. gives_provided (is_macro_path (codes "format_args") p) (λ d. gives_after (read_fmt r (next inside)) (λ f. gives_some (format_args f) tt))))
      (λ e p. gives_some (e, ts) p)
  macro_fits p _ = gives_none

  macro_at : (b : Bool) (p : PathTree) (ts us vs : Trees) → IsBare ts → Front (path_trees nowhere p) ts us → Front (k.punct 33) us vs →
      (e : ExprTree) (ws : Trees) → macro_from r p (next vs) ≡ Some (e, ws) → AnOperand g at_post b ts (e, ws)
  macro_at b p ts us vs h f x e ws q =
      let own : IsBare (path_trees nowhere p) = bare_own (path_trees nowhere p) ts us h f.0 in
      let m : IsExpr g b e × Spells (expr_trees e) (join (path_trees nowhere p) (join (k.punct 33) vs)) ws =
      macro_sound g r S b p vs ws (next vs) e own (next_begins vs x.1) q in
      kept (expr_trees e) ts ws h ((m.0, (macro_fits p (next vs)).at (e, ws) q), ends_with (path_trees nowhere p) (join (k.punct 33) vs) f x.0 ∙ m.1)

  macro_row : (b : Bool) (p : PathTree) (ts us vs : Trees) → IsBare ts → Front (path_trees nowhere p) ts us → Front (k.punct 33) us vs →
      Gives (macro_from r p (next vs)) (AnOperand g at_post b ts)
  macro_row b p ts us vs h f x = record { at = λ a e. macro_at b p ts us vs h f x a.0 a.1 e }

  after_row : (b : Bool) (q : MaybeSelf) (p : PathTree) (ts us : Trees) (x : Next) → IsPath g q p → IsBare ts →
      Front (path_expr_trees q p) ts us → Begins us x →
      Gives (after_path r b q p us x) (AnOperand g at_post b ts)
  after_row b q p ts us (in_parens inside vs) c h f x =
      gives_then (args_row g r S inside x.1) (λ a t.
      gives_some (called q p a.0 a.1, vs) (
        is_called g b q p a.0 a.1 c t.0 t.1.0,
        subst (λ o. Front o ts vs) (ap (λ i. join (path_expr_trees q p) (k.enclosed Paren i)) t.1.1 ∙ called_trees q p a.0 a.1)
            (behind (path_expr_trees q p) (k.enclosed Paren inside) f x.0),
      ))
  after_row true q p ts us (in_braces inside vs) c h f x =
      gives_then (reads_named g r S inside x.1) (λ es t.
      gives_some (build_named q p es, vs) (
        ((tt, (c, t.0)), tt),
        subst (λ i. Front (join (path_expr_trees q p) (k.enclosed Brace i)) ts vs) t.1
            (behind (path_expr_trees q p) (k.enclosed Brace inside) f x.0),
      ))
  after_row b no_self p ts us (bangs vs) c h f x = macro_row b p ts us vs h f x
  after_row b q p ts us _ c h f x = gives_some (path_expr q p, us) ((c, tt), f)

  path_row : (b : Bool) (ts : Trees) (x : Next) → IsBare ts → Begins ts x → Gives (path_base r b x) (AnOperand g at_post b ts)
  path_row b ts x h f =
      gives_then (plain_row ts x h f) (λ a p. after_row b no_self a.0 ts a.1 (next a.1) p.0 h p.1 (next_begins a.1 p.1.1))

  qualified_at : (ts : Trees) → IsBare ts → (q : MaybeSelf) (p : PathTree) (us : Trees) → r.leaves.qualified ts ≡ Some ((q, p), us) →
      IsPath g q p × Front (path_expr_trees q p) ts us
  qualified_at ts h q p us e =
      let l : (T (is_qualified q) × g.IsQualified q p) × (ts ≡ join (path_expr_trees q p) us) = S.leaf.qualified ts us q p h e in
      (qualified_path g q p l.0.0 l.0.1, (l.1, bare_rest (path_expr_trees q p) ts us h l.1))

  reads_qualified : (ts : Trees) → IsBare ts →
      Gives (r.leaves.qualified ts) (λ a. IsPath g a.0.0 a.0.1 × Front (path_expr_trees a.0.0 a.0.1) ts a.1)
  reads_qualified ts h = record { at = λ a e. qualified_at ts h a.0.0 a.0.1 a.1 e }

  qualified_row : (b : Bool) (ts : Trees) → IsBare ts → Gives (qualified_base r b ts) (AnOperand g at_post b ts)
  qualified_row b ts h =
      gives_then (reads_qualified ts h) (λ a p. after_row b a.0.0 a.0.1 ts a.1 (next a.1) p.0 h p.1 (next_begins a.1 p.1.1))

  -- ---- groups

  tuple_row : (b : Bool) (ts us inside : Trees) (es : ExprTrees) (last : Bool) → (last ≡ true → T (is_any es)) → Each g at_or true es →
      inside ≡ args_trees es last →
      Front (k.enclosed Paren inside) ts us → Gives (tuple_of us es last) (AnOperand g at_post b ts)
  tuple_row b ts us inside no_exprs true any h e f = absurd (any refl)
  tuple_row b ts us inside no_exprs false any h e f =
      gives_some (tuple no_exprs, us) (((tt, tt), tt), subst (λ i. Front (k.enclosed Paren i) ts us) e f)
  tuple_row b ts us inside (expr_then a no_exprs) true any h e f = gives_none
  tuple_row b ts us inside (expr_then a no_exprs) false any h e f =
      gives_some (paren a, us) ((h.0.0, tt), subst (λ i. Front (k.enclosed Paren i) ts us) (e ∙ join-no_trees (expr_trees a)) f)
  tuple_row b ts us inside (expr_then a (expr_then c es)) true any h e f = gives_none
  tuple_row b ts us inside (expr_then a (expr_then c es)) false any h e f =
      gives_some (tuple (expr_then a (expr_then c es)), us) (((tt, h), tt), subst (λ i. Front (k.enclosed Paren i) ts us) e f)

  group_row : (b : Bool) (ts us inside : Trees) (x : Next) → IsBare inside → Front (k.enclosed Paren inside) ts us → Begins us x →
      Gives (group_from r inside us x) (AnOperand g at_post b ts)
  group_row b ts us inside (in_parens second vs) h f x =
      gives_provided (is_some_trees inside) (λ c.
      gives_then (gives_whole (reads_expr g r S true second x.1)) (λ a p.
      gives_some (opaque_call inside a, vs) (
        ((holds (is_some_trees inside) c, p.0), tt),
        subst (λ i. Front (join (k.enclosed Paren inside) (k.enclosed Paren i)) ts vs) (p.1.0 ∙ join-no_trees (expr_trees a))
            (behind (k.enclosed Paren inside) (k.enclosed Paren second) f x.0),
      )))
  group_row b ts us inside _ h f x =
      gives_then (args_row g r S inside h) (λ a p. tuple_row b ts us inside a.0 a.1 p.0 p.1.0 p.1.1 f)

  -- ---- words

  unsafe_row : (b : Bool) (ts us : Trees) (x : Next) → Front (k.word (codes "unsafe")) ts us → Begins us x →
      Gives (unsafe_of r x) (AnOperand g at_post b ts)
  unsafe_row b ts us (in_braces inside vs) f x =
      gives_then (gives_whole (reads_expr g r S true inside x.1)) (λ a p.
      gives_some (unsafe_expr a, vs) (
        (p.0, tt),
        subst (λ i. Front (join (k.word (codes "unsafe")) (k.enclosed Brace i)) ts vs) (p.1.0 ∙ join-no_trees (expr_trees a))
            (behind (k.word (codes "unsafe")) (k.enclosed Brace inside) f x.0),
      ))
  unsafe_row b ts us _ f x = gives_none

  match_row : (b : Bool) (ts us : Trees) (a : ExprTree) (x : Next) → IsExpr g false a →
      Front (join (k.word (codes "match")) (expr_trees a)) ts us → Begins us x →
      Gives (match_of r a x) (AnOperand g at_post b ts)
  match_row b ts us a (in_braces inside vs) c f x =
      gives_then (reads_arms g r S inside x.1) (λ s p.
      gives_some (match_expr a s, vs) (
        ((c, p.0), tt),
        subst (λ i. Front (join (k.word (codes "match")) (join (expr_trees a) (k.enclosed Brace i))) ts vs) p.1
            (behind (join (k.word (codes "match")) (expr_trees a)) (k.enclosed Brace inside) f x.0),
      ))
  match_row b ts us a _ c f x = gives_none

  word_row : (b : Bool) (w : Word) (ts us : Trees) → WordFront w ts us → Gives (word_base r b w us) (AnOperand g at_post b ts)
  word_row b k_true ts us f = gives_some (bool true, us) ((tt, tt), f)
  word_row b k_false ts us f = gives_some (bool false, us) ((tt, tt), f)
  word_row b k_unsafe ts us f = unsafe_row b ts us (next us) f (next_begins us f.1)
  word_row b k_match ts us f =
      gives_then (reads_expr g r S false us f.1) (λ a p.
      match_row b ts a.1 a.0 (next a.1) p.0 (behind (k.word (codes "match")) (expr_trees a.0) f p.1) (next_begins a.1 p.1.1))
  word_row b _ ts us f = gives_none

  pub base_row : (b : Bool) (ts : Trees) (x : Next) → IsBare ts → Begins ts x → Gives (read_base r b ts x) (AnOperand g at_post b ts)
  base_row b ts (a_name i us) h x = path_row b ts (a_name i us) h x
  base_row b ts (colons us) h x = path_row b ts (colons us) h x
  base_row b ts (less us) h x = qualified_row b ts h
  base_row b ts (in_parens inside us) h x = group_row b ts us inside (next us) x.1 x.0 (next_begins us x.0.1)
  base_row b ts (literal l us) h x =
      gives_provided (is_str l.kind) (λ c. gives_some (str_expr l, us) ((str_kind l.kind c, tt), x.0))
  base_row b ts (a_word w us) h x = word_row b w ts us x
  base_row b ts _ h x = gives_none
