-- What reading the trees of a text answers.
use Rattle.std.proofs.Common.{◌≡◌, ℕ, List, map, Option, Some, None, Result, Ok, Err, IfOk, refl, sym, ap, subst, ◌∙◌}
use Rattle.std.specs.Prelude.{IfErr, IsErrAnd}
use Rattle.std.proofs.lemmas.Grind.{common_steps}
use Rattle.dm_stream.specs.declared.error.Error.{Error}
use Rattle.dm_stream.specs.declared.error.Error.TheVariants.{NoMemory, Refused}
use Rattle.dm_stream.specs.declared.error.Kind.TheVariants.{Syntax, TooDeep}
use Rattle.dm_stream.specs.declared.tokens.Span.{Span}
use Rattle.dm_stream.specs.Trees.{Trees, flatten}
use Rattle.dm_lexer.specs.Nesting.{IsTreesOf, IsRefusalOf}
use Rattle.dm_output.specs.declared.item.Item.{Item}
use Rattle.dm_output.specs.Output.{ItemTree}
use Rattle.dm_output.specs.Views.{item_view}
use Rattle.dm_levels.specs.Levels.{items_levels, deep_in}
use Rattle.dm_reread.specs.Unplaced.{IsAnswer}
use Rattle.dm_reread.specs.ReadBack.{item_grammar, read_output}
use Rattle.dm_read_laws.proofs.ReadingAnswers.{answers}
use Rattle.dm_read_places.specs.Reads.{ReadsWhole}
use Rattle.dm_read_items.specs.Reading.{IsAnswerTo, IsFollowed, Becomes, IsWithin, IsUnread, no_memory, lexed, unlike, too_deep}

pub answered : (text : List ℕ) (ts : Trees) (o : Option (List ItemTree)) → IsTreesOf text ts → read_output ts ≡ o → IsAnswerTo text o
answered text ts o t e =
    record { trees = ts; are_trees = t; answer = subst (λ x. IsAnswer item_grammar ts x) e (answers ts) }

pub unread : (text : List ℕ) (ts : Trees) (s : Span) → IsTreesOf text ts → read_output ts ≡ None →
    IsUnread text (Refused (record { kind = Syntax; span = s }))
unread text ts s t e = unlike (record { kind = Syntax; span = s }) refl (answered text ts None t e)

pub ruleset read_steps = (common_steps, answered, unread)

-- ---- what was read, with its first token that is too deep

module _ (text : List ℕ) (ts : Trees) (xs : List Item) (deep : Option Span) (t : IsTreesOf text ts)
    (e : read_output ts ≡ Some (map item_view xs)) (d : deep ≡ deep_in (items_levels (map item_view xs)) (flatten ts)) where
  followed : (o : Option Span) → deep ≡ o → IsFollowed text (map item_view xs) o
  unfolding answered
  followed o h = record { answered = answered text ts (Some (map item_view xs)) t e; first_deep = sym d ∙ h }

  pub kept_within : (r : Result (List Item) Error) → IsWithin xs deep r → IfOk r (λ all. IsFollowed text (map item_view all) None)
  kept_within (Ok ys) h = subst (λ zs. IsFollowed text (map item_view zs) None) (sym h.0) (followed None h.1)
  kept_within (Err f) h = tt

  pub refused_within : (r : Result (List Item) Error) → IsWithin xs deep r → IfErr r (IsUnread text)
  refused_within (Ok ys) h = tt
  refused_within (Err f) h =
      subst (IsUnread text) (sym h.2) (too_deep (record { kind = TooDeep; span = h.0 }) refl (map item_view xs) (followed (Some h.0) h.1))

-- ---- refusals

pub lexed_unread : (text : List ℕ) (e : Error) (r : Result (List Item) Error) → IsRefusalOf text e → IsErrAnd r (λ d. d ≡ e) →
    IfErr r (IsUnread text)
lexed_unread text e (Ok xs) h i = tt
lexed_unread text e (Err d) h i = subst (IsUnread text) (sym i) (lexed e h)

pub unlike_unread : (text : List ℕ) (ts us : Trees) (e f : Error) → IsTreesOf text ts → us ≡ ts →
    ReadsWhole {X = List Item} (map item_view) read_output us (Err e) → Becomes e f → IsUnread text f
unlike_unread text ts us NoMemory f t i h b = subst (IsUnread text) (sym b) no_memory
unlike_unread text ts us (Refused r) f t i h b = subst (IsUnread text) (sym b) (unread text ts r.span t (ap read_output (sym i) ∙ h))
