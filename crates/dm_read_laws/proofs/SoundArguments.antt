-- Arguments, and fields with values: what is read of them is in the grammar, and has the tokens that were read.
use Rattle.std.specs.Prelude.{◌≡◌, Bool, true, false, T, Some, refl}
use Rattle.std.proofs.Common.{◌∙◌}
use Rattle.dm_stream.specs.declared.tokens.Ident.{Ident}
use Rattle.dm_stream.specs.Trees.{Trees, no_trees, token, group, join}
use Rattle.dm_ast.specs.Keywords.{is_name}
use Rattle.dm_ast.specs.TypeTokens.{name, spaced}
use Rattle.dm_output.specs.Output.{ExprTree, ExprTrees, no_exprs, expr_then, NamedExprs, no_named_exprs, named_expr_then}
use Rattle.dm_output.specs.Tokens as k
use Rattle.dm_output.specs.Tokens.{expr_trees, each_expr, ended, each_named_expr}
use Rattle.dm_reread.specs.Next.{Next, comma, colon, a_name, next}
use Rattle.dm_reread.specs.Next as n
use Rattle.dm_reread.specs.Leaves.{LeafGrammar}
use Rattle.dm_reread.specs.Reading.{Readers, first_arg, read_args, more_args, named_value, read_named_exprs}
use Rattle.dm_reread.specs.Grammar.{at_or, IsName, is_any, Each, EachNamed}
use Rattle.dm_read_laws.specs.Sound.{IsBare}
use Rattle.dm_read_laws.proofs.SoundRows.{args_tail, Sound}
use Rattle.dm_read_laws.proofs.SoundSteps.{Front, Begins, next_begins}
use Rattle.dm_read_laws.proofs.SoundFronts.{Gives, gives_some, gives_none, gives_then, gives_provided, gives_as, behind, ends_with, comma_seen, reads_expr, reads_args, reads_named}

-- all arguments: a comma behind the last one makes those of a constructor
abbrev pub args_trees : ExprTrees → Bool → Trees
args_trees es false = spaced k.comma true (each_expr es)
args_trees es true = ended (each_expr es)

first_shape : (e : ExprTree) (es : ExprTrees) (last : Bool) → join (expr_trees e) (args_tail es last) ≡ args_trees (expr_then e es) last
first_shape e es false = refl
first_shape e es true = refl

comma_shape : (es : ExprTrees) (last : Bool) → T (is_any es) → join k.comma (args_trees es last) ≡ args_tail es last
comma_shape es true h = refl
comma_shape no_exprs false h = absurd h
comma_shape (expr_then e es) false h = refl

-- the trees are these arguments
abbrev pub Args : LeafGrammar → Trees → ExprTrees × Bool → Type 0
Args g ts a = Each g at_or true a.0 × (ts ≡ args_trees a.0 a.1)

module _ (g : LeafGrammar) (r : Readers) (S : Sound g r) where
  first_row : (ts : Trees) → IsBare ts → Gives (first_arg r ts) (λ a. T (is_any a.0) × Args g ts a)
  first_row ts h =
      gives_then (reads_expr g r S true ts h) (λ a p.
      gives_then (reads_args g r S a.1 p.1.1) (λ s q.
      gives_some (expr_then a.0 s.0, s.1)
      (tt, (((p.0, tt), q.0), ends_with (expr_trees a.0) (args_tail s.0 s.1) p.1 q.1 ∙ first_shape a.0 s.0 s.1))))

  -- the inside of a group: without any argument no comma ends it
  pub args_row : (ts : Trees) → IsBare ts → Gives (read_args r false ts) (λ a. (a.1 ≡ true → T (is_any a.0)) × Args g ts a)
  args_row no_trees h = gives_some (no_exprs, false) ((λ e. absurd (cc)), (tt, refl))
  args_row (token k ts) h = gives_as (λ a p. ((λ e. p.0), p.1)) (first_row (token k ts) h)
  args_row (group d from inside upto ts) h = gives_as (λ a p. ((λ e. p.0), p.1)) (first_row (group d from inside upto ts) h)

  -- behind a comma
  comma_row : (ts us : Trees) → Front k.comma ts us → Gives (read_args r true us) (λ a. Each g at_or true a.0 × (ts ≡ args_tail a.0 a.1))
  comma_row ts no_trees f = gives_some (no_exprs, true) (tt, f.0)
  comma_row ts (token j us) f =
      gives_as (λ a p. (p.1.0, ends_with k.comma (args_trees a.0 a.1) f p.1.1 ∙ comma_shape a.0 a.1 p.0)) (first_row (token j us) f.1)
  comma_row ts (group d from inside upto us) f =
      gives_as (λ a p. (p.1.0, ends_with k.comma (args_trees a.0 a.1) f p.1.1 ∙ comma_shape a.0 a.1 p.0))
      (first_row (group d from inside upto us) f.1)

  more_row : (ts : Trees) (x : Next) → Begins ts x → Gives (more_args r x) (λ a. Each g at_or true a.0 × (ts ≡ args_tail a.0 a.1))
  more_row ts n.ended f = gives_some (no_exprs, false) (tt, f)
  more_row ts (comma us) f = comma_row ts us f
  more_row ts _ f = gives_none

  pub sound_args : (ts : Trees) (es : ExprTrees) (last : Bool) → IsBare ts → more_args r (next ts) ≡ Some (es, last) →
      Each g at_or true es × (ts ≡ args_tail es last)
  sound_args ts es last h e = (more_row ts (next ts) (next_begins ts h)).at (es, last) e

  -- ---- fields with values

  value_row : (ts us : Trees) (i : Ident) (x : Next) → IsName i → Front (name i) ts us → Begins us x →
      Gives (named_value r i x) (λ es. EachNamed g es × (ts ≡ ended (each_named_expr es)))
  value_row ts us i (colon vs) c f h =
      gives_then (reads_expr g r S true vs h.1) (λ a p.
      gives_then (comma_seen a.1 (next a.1) (next_begins a.1 p.1.1)) (λ ws q.
      gives_then (reads_named g r S ws q.1) (λ s t.
      gives_some (named_expr_then i a.0 s) (
        (c, (p.0, t.0)),
        ends_with (join (name i) (join k.colon (expr_trees a.0))) (join k.comma (ended (each_named_expr s)))
            (behind (name i) (join k.colon (expr_trees a.0)) f (behind k.colon (expr_trees a.0) h p.1))
            (ends_with k.comma (ended (each_named_expr s)) q t.1),
      ))))
  value_row ts us i _ c f h = gives_none

  named_row : (ts : Trees) (x : Next) → Begins ts x → Gives (read_named_exprs r x) (λ es. EachNamed g es × (ts ≡ ended (each_named_expr es)))
  named_row ts n.ended f = gives_some no_named_exprs (tt, f)
  named_row ts (a_name i us) f =
      gives_provided (is_name i) (λ c. value_row ts us i (next us) c f.0 (next_begins us f.0.1))
  named_row ts _ f = gives_none

  pub sound_named_exprs : (ts : Trees) (es : NamedExprs) → IsBare ts → read_named_exprs r (next ts) ≡ Some es →
      EachNamed g es × (ts ≡ ended (each_named_expr es))
  sound_named_exprs ts es h e = (named_row ts (next ts) (next_begins ts h)).at es e
