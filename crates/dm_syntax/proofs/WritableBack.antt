-- What is read from writable trees is written with writable trees.
use Rattle.std.proofs.Common.{◌≡◌, ℕ, ◌+◌, true, false, not, List, [], ◌∷◌, sym, ap, ◌∙◌, subst, refl}
use Rattle.std.specs.Prelude.{if◌then◌else◌}
use Rattle.std.proofs.lemmas.Bool.{and_from, and_parts}
use Rattle.dm_stream.specs.declared.tokens.Span.{Span}
use Rattle.dm_stream.specs.declared.tokens.Delim.{Delim}
use Rattle.dm_stream.specs.declared.tokens.Punct.{Punct}
use Rattle.dm_stream.specs.declared.tokens.Spacing.TheVariants.{Joint, Alone}
use Rattle.dm_stream.specs.declared.tokens.Token.TheVariants as t
use Rattle.dm_stream.specs.Trees.{Trees, no_trees, token, group, join}
use Rattle.dm_lexer.specs.Rows.{begins_comment}
use Rattle.dm_stream.specs.Layout.{is_joint, nowhere}
use Rattle.dm_lexer.specs.Written.{IsSpellable, is_spaced, are_spaced, AreWritable}
use Rattle.dm_lexer.proofs.Rewritten.{spellable-alike, spellable-same}
use Rattle.dm_lexer.proofs.Writables.{writable-join, writable-none, writable-group}
use Rattle.dm_ast.specs.Spelling.{Where, Marks, Spelling, TokenAt, PairAt, GroupAt, keyword, AllAt}
use Rattle.dm_ast.specs.TypeTokens as spell
use Rattle.dm_syntax.proofs.Walked.{IsWalked, is_plain}

-- where the trees are writable, so are these, and the others behind them
abbrev Writes : Trees → Trees → Trees → Type 0
Writes front ts others = AreWritable ts → AreWritable front × AreWritable others

-- ---- parts one after another

writes_join : (a b ts mid o : Trees) → Writes a ts mid → Writes b mid o → Writes (join a b) ts o
writes_join a b ts mid o e f h =
    let x = e h in
    let y = f x.1 in
    (writable-join a b x.0 y.0, y.1)

writes_none : (ts o : Trees) → ts ≡ o → Writes no_trees ts o
writes_none ts o e h = let P : Trees → Type 0 = λ v. AreWritable v in (writable-none, subst P e h)

-- ---- tokens

rest_writable : (k : t.the_data) (o : Trees) → AreWritable (token k o) → AreWritable o
rest_writable k o h = record { spellable = h.spellable.1; spaced = (and_parts (is_spaced k o) (are_spaced o) h.spaced).1 }

plain_spaced : (k : t.the_data) → is_plain k ≡ true → is_spaced k no_trees ≡ true
plain_spaced (t.Ident i) h = refl
plain_spaced (t.Lifetime l) h = refl
plain_spaced (t.Literal l) h = refl
plain_spaced (t.Punct p) h = absurd (cc)

at_trees : (ts us : Trees) → ts ≡ us → AreWritable ts → AreWritable us
at_trees ts us e h = let P : Trees → Type 0 = λ v. AreWritable v in subst P e h

writes_token : (w : Where) (k : t.the_data) → is_plain k ≡ true → (ts o : Trees) (m : Marks) → TokenAt w k ts o m → Writes (spell.one k) ts o
writes_token w k p ts o m s h =
    let g : AreWritable (token k o) = at_trees ts (token k o) s.spelled h in
    (record { spellable = (g.spellable.0, tt); spaced = and_from (is_spaced k no_trees) true (plain_spaced k p) refl }, rest_writable k o g)

punct_from : (r : Span) (c : ℕ) (p : Punct) → p.ch ≡ c → IsSpellable (t.Punct p) → IsSpellable (t.Punct record { ch = c; spacing = Alone; span = r })
punct_from r c p e s =
    spellable-alike (t.Punct p) (t.Punct record { ch = c; spacing = Alone; span = r })
    (ap (λ x. t.Punct record { ch = x; spacing = Alone; span = nowhere }) e) s

joint_from : (r : Span) (c : ℕ) (p : Punct) → p.ch ≡ c → IsSpellable (t.Punct p) → IsSpellable (t.Punct record { ch = c; spacing = Joint; span = r })
joint_from r c p e s =
    spellable-alike (t.Punct p) (t.Punct record { ch = c; spacing = Joint; span = r })
    (ap (λ x. t.Punct record { ch = x; spacing = Alone; span = nowhere }) e) s

writes_one : (r : Span) (c : ℕ) (p : Punct) (ts o : Trees) → p.ch ≡ c → ts ≡ token (t.Punct p) o → Writes (spell.punct c r) ts o
writes_one r c p ts o e q h =
    let g : AreWritable (token (t.Punct p) o) = at_trees ts (token (t.Punct p) o) q h in
    (record { spellable = (punct_from r c p e g.spellable.0, tt); spaced = refl }, rest_writable (t.Punct p) o g)

no_comment : (f q : Punct) (a b : ℕ) (o : Trees) → f.ch ≡ a → f.spacing ≡ Joint → q.ch ≡ b → is_spaced (t.Punct f) (token (t.Punct q) o) ≡ true →
    not (begins_comment (a ∷ b ∷ [])) ≡ true
no_comment f q a b o x j y h =
    sym (ap (λ c. not (begins_comment (c ∷ q.ch ∷ []))) x ∙ ap (λ d. not (begins_comment (a ∷ d ∷ []))) y) ∙
    sym (ap (λ s. if is_joint s then not (begins_comment (f.ch ∷ q.ch ∷ [])) else true) j) ∙ h

writes_pair : (r : Span) (w : Where) (a b : ℕ) (ts o : Trees) (m : Marks) → PairAt w a b ts o m → Writes (spell.joint a b r) ts o
writes_pair r w a b ts o m s h =
    let more : Trees = token (t.Punct s.second) o in
    let g : AreWritable (token (t.Punct s.first) more) = at_trees ts (token (t.Punct s.first) more) s.spelled h in
    let k : AreWritable more = rest_writable (t.Punct s.first) more g in
    let apart : not (begins_comment (a ∷ b ∷ [])) ≡ true =
    no_comment s.first s.second a b o s.is_first s.is_joint s.is_second (and_parts (is_spaced (t.Punct s.first) more) (are_spaced more) g.spaced).0 in (
      record {
        spellable = (joint_from r a s.first s.is_first g.spellable.0, (punct_from r b s.second s.is_second k.spellable.0, tt));
        spaced = and_from (not (begins_comment (a ∷ b ∷ []))) true apart refl;
      },
      rest_writable (t.Punct s.second) o k,
    )

writes_word : (r : Span) (w : Where) (word : List ℕ) (ts o : Trees) (m : Marks) → keyword w word ts o m → Writes (spell.word word r) ts o
writes_word r w word ts o m s h =
    let k : t.the_data = t.Ident record { name = word; raw = false; span = s.range } in
    let g : AreWritable (token k o) = at_trees ts (token k o) s.there.spelled h in
    (record { spellable = (spellable-same k (t.Ident record { name = word; raw = false; span = r }) refl g.spellable.0, tt); spaced = refl }, rest_writable k o g)

writes_group : (w : Where) (d : Delim) (a : Trees) (Inside : Where → Spelling) (ts o : Trees) (m : Marks) → GroupAt w d Inside ts o m →
    ((v : Where) (i : Trees) (k : Marks) → Inside v i no_trees k → Writes a i no_trees) → Writes (spell.grouped d a) ts o
writes_group w d a Inside ts o m s f h =
    let g : AreWritable (group d s.opener s.inside s.closer o) = at_trees ts (group d s.opener s.inside s.closer o) s.spelled h in
    let inside : AreWritable s.inside =
    record { spellable = g.spellable.0; spaced = (and_parts (are_spaced s.inside) (are_spaced o) g.spaced).0 } in
    let rest : AreWritable o = record { spellable = g.spellable.1; spaced = (and_parts (are_spaced s.inside) (are_spaced o) g.spaced).1 } in
    let x = f (record { level = w.level + 1; limit = s.closer.start }) s.inside s.inner_marks s.whole inside in
    (writable-group d nowhere nowhere a no_trees x.0 writable-none, rest)

writes_all : (w : Where) (all ts o : Trees) (m : Marks) → AllAt w all ts o m → Writes all ts o
writes_all w all ts o m s h = (at_trees ts all s.spelled h, at_trees no_trees o (sym s.none_left) writable-none)

-- ---- all that the walk asks

pub writes : IsWalked (λ _ front ts o. Writes front ts o)
writes = record {
  joined = λ ps qs. writes_join;
  none = writes_none;
  plain = writes_token;
  one = writes_one;
  pair = writes_pair;
  word = writes_word;
  grouped = λ ps. writes_group;
  all = writes_all;
}
