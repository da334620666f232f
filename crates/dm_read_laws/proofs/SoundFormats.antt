-- Formats and macros that were read are in the grammar and have the tokens that were read, over readers of which that holds.
use Rattle.std.specs.Prelude.{◌≡◌, ℕ, ◌==◌, ◌&&◌, cond, Bool, true, false, IsTrue, List, [], ◌∷◌, codes, Option, Some, None, refl}
use Rattle.std.proofs.Common.{ap, ◌∙◌, sym}
use Rattle.std.proofs.lemmas.Bool.{and_parts, eqb-true}
use Rattle.dm_stream.specs.declared.tokens.Delim.TheVariants.{Paren}
use Rattle.dm_stream.specs.declared.tokens.Spacing.{Spacing}
use Rattle.dm_stream.specs.declared.tokens.Spacing.TheVariants.{Joint, Alone}
use Rattle.dm_stream.specs.declared.tokens.Ident.{Ident}
use Rattle.dm_stream.specs.declared.tokens.Token.TheVariants as t
use Rattle.dm_stream.specs.Layout.{nowhere}
use Rattle.dm_stream.specs.Trees.{Trees, no_trees, token, group, join}
use Rattle.dm_ast.specs.Keywords.{is_name}
use Rattle.dm_ast.specs.Spelling.{is_word}
use Rattle.dm_ast.specs.Tree.{PathTree, path_tree, segment, no_segments, segment_then, absent}
use Rattle.dm_ast.specs.TypeTokens as syntax
use Rattle.dm_ast.specs.TypeTokens.{name, path_trees}
use Rattle.dm_output.specs.Output.{FmtArgTree, FmtTree, ExprTree, write_expr, format_args}
use Rattle.dm_output.specs.Tokens as k
use Rattle.dm_output.specs.Tokens.{alias_trees, fmt_arg_trees, fmt_trees, macro_trees, expr_trees}
use Rattle.dm_reread.specs.Next.{Next, ended, comma, in_parens, literal, a_name, next}
use Rattle.dm_reread.specs.Leaves.{LeafGrammar, Leaves}
use Rattle.dm_reread.specs.Reading.{Readers, then, comma_after, is_macro_path, is_alone, alias_of, fmt_arg_from, read_fmt_arg, more_fmt_args, read_fmt, write_from, macro_of, macro_from, step}
use Rattle.dm_reread.specs.Grammar.{IsFmtArg, AreFmtArgs, IsFmt, IsExpr}
use Rattle.dm_reread.proofs.Laws.{fmt_tail}
use Rattle.dm_reread.proofs.Words.{plainly}
use Rattle.dm_read_laws.specs.Sound.{IsBare, Spells, SoundLeaves}
use Rattle.dm_read_laws.proofs.SoundRows.{Sound}
use Rattle.dm_read_laws.proofs.Answers.{then_by, provided_some, cond_some, same_answer}
use Rattle.dm_read_laws.proofs.SoundSteps.{bare_ident, bare_punct, bare_rest, is_word_same, Front, Begins, next_begins, punct_same}
use Rattle.dm_read_laws.proofs.SoundFronts.{comma_seen}

-- ---- arguments of a format

abbrev IsArgRead : LeafGrammar → Trees → FmtArgTree × Trees → Type 0
IsArgRead g ts a = IsFmtArg g a.0.alias a.0.value × Spells (fmt_arg_trees a.0) ts a.1

abbrev AreArgsRead : LeafGrammar → Trees → List FmtArgTree → Type 0
AreArgsRead g ts as' = AreFmtArgs g as' × (ts ≡ fmt_tail as')

abbrev IsFmtRead : LeafGrammar → Trees → FmtTree → Type 0
IsFmtRead g ts f = IsFmt g f × (ts ≡ fmt_trees f)

-- where no name and `=` stand in front of a value and what follows it, none stand in front of the value
unchosen : {A : Type 0} → (c : Bool) (x y : A) → cond c (Some x) None ≡ None → cond c (Some y) None ≡ None
unchosen true x y h = absurd (cc)
unchosen false x y h = refl

no_alias : (v us : Trees) → alias_of (join v us) ≡ None → alias_of v ≡ None
no_alias no_trees us h = refl
no_alias (group d from inside upto ts) us h = refl
no_alias (token (t.Ident i) no_trees) us h = refl
no_alias (token (t.Ident i) (group d from inside upto ts)) us h = refl
no_alias (token (t.Ident i) (token (t.Punct p) ts)) us h =
    unchosen ((is_alone p.spacing && (p.ch == 61)) && is_name i) (i, join ts us) (i, ts) h
no_alias (token (t.Ident i) (token _ ts)) us h = refl
no_alias (token _ ts) us h = refl

-- a name and `=` in front of other trees
abbrev IsAliased : Trees → Ident × Trees → Type 0
IsAliased ts a = (IsTrue (is_name a.0) × IsBare a.1) × Spells (alias_trees (Some a.0)) ts a.1

alone : (s : Spacing) → is_alone s ≡ true → s ≡ Alone
alone Alone e = refl
alone Joint e = absurd (cc)

alias_sound : (ts : Trees) (a : Ident × Trees) → IsBare ts → alias_of ts ≡ Some a → IsAliased ts a
alias_sound (token (t.Ident i) (token (t.Punct p) ts)) a bare e =
    cond_some ((is_alone p.spacing && (p.ch == 61)) && is_name i) (Some (i, ts)) None a (IsAliased (token (t.Ident i) (token (t.Punct p) ts)) a) e
    (λ h f.
    let c : ((is_alone p.spacing && (p.ch == 61)) ≡ true) × (is_name i ≡ true) =
    and_parts (is_alone p.spacing && (p.ch == 61)) (is_name i) h in
    let d : (is_alone p.spacing ≡ true) × ((p.ch == 61) ≡ true) = and_parts (is_alone p.spacing) (p.ch == 61) c.0 in
    let b : (p.span ≡ nowhere) × IsBare ts = bare_punct p ts (bare_ident i (token (t.Punct p) ts) bare).1 in
    same_answer (IsAliased (token (t.Ident i) (token (t.Punct p) ts))) (i, ts) a f (
      (c.1, b.1),
      ap (λ x. token (t.Ident i) (token (t.Punct x) ts)) (punct_same p 61 Alone (eqb-true p.ch 61 d.1) (alone p.spacing d.0) b.0),
    ))
    (λ h f. absurd (cc))
alias_sound (token (t.Ident i) (token (t.Ident j) ts)) a bare e = absurd (cc)
alias_sound (token (t.Ident i) (token (t.Lifetime l) ts)) a bare e = absurd (cc)
alias_sound (token (t.Ident i) (token (t.Literal l) ts)) a bare e = absurd (cc)
alias_sound (token (t.Ident i) no_trees) a bare e = absurd (cc)
alias_sound (token (t.Ident i) (group d from inside upto ts)) a bare e = absurd (cc)
alias_sound _ a bare e = absurd (cc)

module _ (g : LeafGrammar) (l : Leaves) (S : SoundLeaves g l) where
  arg_by : (ts us : Trees) (x : FmtArgTree) (o : Option (Ident × Trees)) → IsBare ts → alias_of ts ≡ o →
      fmt_arg_from l ts o ≡ Some (x, us) →
      IsArgRead g ts (x, us)
  arg_by ts us x None bare a e =
      then_by (l.run ts) _ (x, us) (IsArgRead g ts (x, us)) e
      (λ v h f.
      let d : g.IsRun v.0 × Spells v.0 ts v.1 = S.run ts v.1 v.0 bare h in
      same_answer (IsArgRead g ts) (record { alias = None; value = v.0 }, v.1) (x, us) f
      ((d.0, no_alias v.0 v.1 (ap alias_of (sym d.1) ∙ a)), d.1))
  arg_by ts us x (Some i) bare a e =
      then_by (l.run i.1) _ (x, us) (IsArgRead g ts (x, us)) e
      (λ v h f.
      let c : IsAliased ts i = alias_sound ts i bare a in
      let d : g.IsRun v.0 × Spells v.0 i.1 v.1 = S.run i.1 v.1 v.0 c.0.1 h in
      same_answer (IsArgRead g ts) (record { alias = Some i.0; value = v.0 }, v.1) (x, us) f
      ((d.0, c.0.0), c.1 ∙ ap (join (alias_trees (Some i.0))) d.1))

  -- a format's argument
  pub fmt_arg_sound : (ts us : Trees) (x : FmtArgTree) → IsBare ts → read_fmt_arg l ts ≡ Some (x, us) →
      IsFmtArg g x.alias x.value × Spells (fmt_arg_trees x) ts us
  fmt_arg_sound ts us x bare e = arg_by ts us x (alias_of ts) bare refl e

-- ---- macros

abbrev IsMacro : LeafGrammar → Bool → Trees → ExprTree × Trees → Type 0
IsMacro g b ts a = IsExpr g b a.0 × Spells (expr_trees a.0) ts a.1

-- the call of a macro of this name
abbrev path_of : Ident → Ident → Ident → PathTree
path_of a b c =
    path_tree false (segment_then (segment a absent) (segment_then (segment b absent) (segment_then (segment c absent) no_segments)))

three_words : (called : List ℕ) (a b c : Ident) → IsBare (path_trees nowhere (path_of a b c)) →
    is_macro_path called (path_of a b c) ≡ true →
    path_of a b c ≡ path_of (plainly (codes "derive_more")) (plainly (codes "core")) (plainly called)
three_words called a b c bare e =
    let w : ((is_word (codes "derive_more") a && is_word (codes "core") b) ≡ true) × (is_word called c ≡ true) =
    and_parts (is_word (codes "derive_more") a && is_word (codes "core") b) (is_word called c) e in
    let v : (is_word (codes "derive_more") a ≡ true) × (is_word (codes "core") b ≡ true) =
    and_parts (is_word (codes "derive_more") a) (is_word (codes "core") b) w.0 in
    let two : Trees = join (k.joint 58 58) (join (name b) (join (k.joint 58 58) (name c))) in
    let one : Trees = join (k.joint 58 58) (name c) in
    let first : (a.span ≡ nowhere) × IsBare two = bare_ident a two bare in
    let second : (b.span ≡ nowhere) × IsBare one = bare_ident b one (bare_rest (k.joint 58 58) two (join (name b) one) first.1 refl) in
    let third : (c.span ≡ nowhere) × IsBare no_trees = bare_ident c no_trees (bare_rest (k.joint 58 58) one (name c) second.1 refl) in
    ap (λ x. path_of x b c) (is_word_same (codes "derive_more") a v.0 first.0) ∙
    (ap (λ x. path_of (plainly (codes "derive_more")) x c) (is_word_same (codes "core") b v.1 second.0) ∙
    ap (path_of (plainly (codes "derive_more")) (plainly (codes "core"))) (is_word_same called c w.1 third.0))

-- the tokens of such a path
macro_path_sound : (called : List ℕ) (p : PathTree) → IsBare (path_trees nowhere p) → is_macro_path called p ≡ true →
    path_trees nowhere p ≡ path_trees nowhere (path_of (plainly (codes "derive_more")) (plainly (codes "core")) (plainly called))
macro_path_sound called
    (path_tree false (segment_then (segment a absent) (segment_then (segment b absent) (segment_then (segment c absent) no_segments)))) bare e =
    ap (path_trees nowhere) (three_words called a b c bare e)
macro_path_sound called _ bare e = absurd (cc)

module _ (g : LeafGrammar) (r : Readers) (S : Sound g r) where
  fmt_args_sound : (ts : Trees) (n : Next) (as' : List FmtArgTree) → Begins ts n → more_fmt_args r n ≡ Some as' → AreArgsRead g ts as'
  fmt_args_sound ts ended as' b e = same_answer (AreArgsRead g ts) [] as' e (tt, b)
  fmt_args_sound ts (comma vs) as' b e =
      then_by (read_fmt_arg r.leaves vs) _ as' (AreArgsRead g ts as') e
      (λ a h e'. then_by (r.fmt_args a.1) _ as' (AreArgsRead g ts as') e'
      (λ s i f.
      let d : IsArgRead g vs a = fmt_arg_sound g r.leaves S.leaf vs a.1 a.0 b.1 h in
      let q : AreArgsRead g a.1 s = S.fmt_args a.1 s (bare_rest (fmt_arg_trees a.0) vs a.1 b.1 d.1) i in
      same_answer (AreArgsRead g ts) (a.0 ∷ s) as' f
      ((d.0, q.0), b.0 ∙ ap (join k.comma) (d.1 ∙ ap (join (fmt_arg_trees a.0)) q.1))))
  fmt_args_sound ts _ as' b e = absurd (cc)

  pub fmt_args_row : (ts : Trees) (as' : List FmtArgTree) → IsBare ts → (step r).fmt_args ts ≡ Some as' →
      AreFmtArgs g as' × (ts ≡ fmt_tail as')
  fmt_args_row ts as' bare e = fmt_args_sound ts (next ts) as' (next_begins ts bare) e

  -- a literal and its arguments
  pub fmt_sound : (ts : Trees) (n : Next) (f : FmtTree) → Begins ts n → read_fmt r n ≡ Some f → IsFmt g f × (ts ≡ fmt_trees f)
  fmt_sound ts (literal l vs) f b e =
      then_by (r.fmt_args vs) _ f (IsFmtRead g ts f) e
      (λ s h i.
      let d : AreArgsRead g vs s = S.fmt_args vs s b.0.1 h in
      same_answer (IsFmtRead g ts) (record { lit = l; args = s }) f i (d.0, b.0.0 ∙ ap (join (syntax.literal l)) d.1))
  fmt_sound ts _ f b e = absurd (cc)

  -- the inside of `write`
  abbrev IsWritten : Trees → ExprTree → Type 0
  IsWritten ts e =
      (b : Bool) → IsExpr g b e × (macro_trees (codes "write") ts ≡ expr_trees e)

  write_sound : (ts : Trees) (n : Next) (x : ExprTree) → Begins ts n → write_from r n ≡ Some x → IsWritten ts x
  write_sound ts (a_name i vs) x b e =
      let h : (is_name i ≡ true) ×
      (then (comma_after (next vs)) (λ us. then (read_fmt r (next us)) (λ f. Some (write_expr i f))) ≡ Some x) =
      provided_some (is_name i) _ x e in
      then_by (comma_after (next vs)) _ x (IsWritten ts x) h.1
      (λ us c e'. then_by (read_fmt r (next us)) _ x (IsWritten ts x) e'
      (λ f j q.
      let m : Front k.comma vs us = (comma_seen vs (next vs) (next_begins vs b.0.1)).at us c in
      let d : IsFmtRead g us f = fmt_sound us (next us) f (next_begins us m.1) j in
      same_answer (IsWritten ts) (write_expr i f) x q
      (λ w. (
        (h.0, d.0),
        ap (macro_trees (codes "write")) (b.0.0 ∙ ap (join (name i)) (m.0 ∙ ap (join k.comma) d.1)),
      ))))
  write_sound ts _ x b e = absurd (cc)

  -- a macro whose path has these tokens
  called : (l : List ℕ) (p : PathTree) (inside us : Trees) → IsBare (path_trees nowhere p) → is_macro_path l p ≡ true →
      join (path_trees nowhere p) (join (k.punct 33) (join (k.enclosed Paren inside) us)) ≡ join (macro_trees l inside) us
  called l p inside us bare e =
      ap (λ x. join x (join (k.punct 33) (join (k.enclosed Paren inside) us))) (macro_path_sound l p bare e)

  abbrev IsCalled : Bool → PathTree → Trees → Trees → ExprTree → Type 0
  IsCalled b p inside us e =
      IsExpr g b e × (join (path_trees nowhere p) (join (k.punct 33) (join (k.enclosed Paren inside) us)) ≡ join (expr_trees e) us)

  macro_of_sound : (b : Bool) (p : PathTree) (inside us : Trees) (x : ExprTree) → IsBare (path_trees nowhere p) → IsBare inside →
      macro_of r p inside ≡ Some x → IsCalled b p inside us x
  macro_of_sound b p inside us x bare c e =
      cond_some (is_macro_path (codes "write") p) _ _ x (IsCalled b p inside us x) e
      (λ h f.
      let d : IsExpr g b x × (macro_trees (codes "write") inside ≡ expr_trees x) = write_sound inside (next inside) x (next_begins inside c) f b in
      (d.0, called (codes "write") p inside us bare h ∙ ap (λ y. join y us) d.1))
      (λ h f.
      let q : (is_macro_path (codes "format_args") p ≡ true) × (then (read_fmt r (next inside)) (λ y. Some (format_args y)) ≡ Some x) =
      provided_some (is_macro_path (codes "format_args") p) _ x f in
      then_by (read_fmt r (next inside)) _ x (IsCalled b p inside us x) q.1
      (λ y j m.
      let d : IsFmtRead g inside y = fmt_sound inside (next inside) y (next_begins inside c) j in
      same_answer (IsCalled b p inside us) (format_args y) x m (
        d.0,
        called (codes "format_args") p inside us bare q.0 ∙
            ap (λ z. join (macro_trees (codes "format_args") z) us) d.1,
      )))

  -- the call of a macro from its path on: behind the path stands `!`, and then `ts`
  pub macro_sound : (b : Bool) (p : PathTree) (ts us : Trees) (n : Next) (x : ExprTree) → IsBare (path_trees nowhere p) → Begins ts n →
      macro_from r p n ≡ Some (x, us) →
      IsExpr g b x × Spells (expr_trees x) (join (path_trees nowhere p) (join (k.punct 33) ts)) us
  macro_sound b p ts us (in_parens inside vs) x bare q e =
      then_by (macro_of r p inside) _ (x, us) (IsMacro g b (join (path_trees nowhere p) (join (k.punct 33) ts)) (x, us)) e
      (λ y h f.
      let d : IsCalled b p inside vs y = macro_of_sound b p inside vs y bare q.1 h in
      same_answer (IsMacro g b (join (path_trees nowhere p) (join (k.punct 33) ts))) (y, vs) (x, us) f
      (d.0, ap (λ z. join (path_trees nowhere p) (join (k.punct 33) z)) q.0.0 ∙ d.1))
  macro_sound b p ts us _ x bare q e = absurd (cc)
