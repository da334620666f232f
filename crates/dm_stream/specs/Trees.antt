-- Lists of token trees, and their flat form.
use Rattle.std.specs.Prelude.{◌≡◌, ℕ, ◌+◌, List, [], ◌∷◌, ◌++◌, length, refl}
use Rattle.std.proofs.Common.{ap, ◌∙◌, sym, append_assoc, append-nil}
use Rattle.std.specs.Coded.{Coded, code_by, coded_list, coded_ℕ, coded×}
use denote.Ref.{NamedLft}
use mir.Syntax.{named}
use Rattle.dm_stream.specs.contracts.tokens.Entry.{the_row}
use Rattle.dm_stream.specs.declared.tokens.Span.{Span}
use Rattle.dm_stream.specs.declared.tokens.Delim.{Delim}
use Rattle.dm_stream.specs.declared.tokens.Token.{Token}
use Rattle.dm_stream.specs.declared.tokens.Entry.{Entry}
use Rattle.dm_stream.specs.declared.tokens.Entry.TheVariants as entry

-- A list of trees: it is empty, or its first tree is a token, or a group of trees between two delimiters.
pub data Trees : Type 0 where
  no_trees : Trees
  token : Token → Trees → Trees
  group : Delim → Span → Trees → Span → Trees → Trees

-- one list after another
abbrev pub join : Trees → Trees → Trees
join no_trees us = us
join (token t rest) us = token t (join rest us)
join (group d from inside upto rest) us = group d from inside upto (join rest us)

pub join-no_trees : (ts : Trees) → join ts no_trees ≡ ts
join-no_trees no_trees = refl
join-no_trees (token t rest) = ap (token t) (join-no_trees rest)
join-no_trees (group d from inside upto rest) = ap (group d from inside upto) (join-no_trees rest)

-- the flat form of a list of trees
abbrev pub flatten : Trees → List Entry
flatten no_trees = []
flatten (token t rest) = entry.Token t ∷ flatten rest
flatten (group d from inside upto rest) =
    entry.Open d from (length (flatten inside) + 1) ∷ (flatten inside ++ entry.Close d upto ∷ flatten rest)

-- what a reader from the back has: the trees of the list that it is in, and where the lists around it go on
pub record Reading : Type 0 where
  pub here : Trees
  pub around : List (Span × Trees)

abbrev pub opened : Delim → Span → Trees → List (Span × Trees) → Reading
opened d from inside [] = record { here = inside; around = [] }
opened d from inside (r ∷ rs) = record { here = group d from inside r.0 r.1; around = rs }

abbrev pub one_back : Entry → Reading → Reading
one_back (entry.Token t) r = record { here = token t r.here; around = r.around }
one_back (entry.Open d from n) r = opened d from r.here r.around
one_back (entry.Close d upto) r = record { here = no_trees; around = (upto, r.here) ∷ r.around }

abbrev pub read_back : List Entry → Reading
read_back [] = record { here = no_trees; around = [] }
read_back (e ∷ es) = one_back e (read_back es)

-- the trees of a flat form
abbrev pub unflatten : List Entry → Trees
unflatten es = (read_back es).here

abbrev after : Trees → Reading → Reading
after ts r = record { here = join ts r.here; around = r.around }

pub read_back-flatten : (ts : Trees) (es : List Entry) → read_back (flatten ts ++ es) ≡ after ts (read_back es)
read_back-flatten no_trees es = refl
read_back-flatten (token t rest) es = ap (one_back (entry.Token t)) (read_back-flatten rest es)
read_back-flatten (group d from inside upto rest) es =
    ap (λ l. one_back (entry.Open d from (length (flatten inside) + 1)) (read_back l))
    (append_assoc (flatten inside) (entry.Close d upto ∷ flatten rest) es) ∙
    ap (one_back (entry.Open d from (length (flatten inside) + 1)))
    (read_back-flatten inside (entry.Close d upto ∷ (flatten rest ++ es))) ∙
    ap (λ r. one_back (entry.Open d from (length (flatten inside) + 1)) (after inside record { here = no_trees; around = (upto, r.here) ∷ r.around }))
    (read_back-flatten rest es) ∙
    ap (λ i. opened d from i ((upto, join rest (read_back es).here) ∷ (read_back es).around)) (join-no_trees inside)

pub unflatten-flatten : (ts : Trees) → unflatten (flatten ts) ≡ ts
unflatten-flatten ts =
    ap (λ l. unflatten l) (sym (append-nil (flatten ts))) ∙ ap (λ r. r.here) (read_back-flatten ts []) ∙ join-no_trees ts

-- what contracts see of a stream
pub record Stream : Type 0 where
  pub trees : Trees
  pub limit : ℕ

abbrev any_lifetime : NamedLft
any_lifetime = record { mir = named 0; lft = [] }

abbrev pub coded_trees : Coded Trees
coded_trees = code_by (List Entry) (coded_list (the_row any_lifetime).coded) flatten unflatten unflatten-flatten

abbrev pub coded_stream : Coded Stream
coded_stream =
    code_by (Trees × ℕ) (coded× coded_trees coded_ℕ) (λ s. (s.trees, s.limit)) (λ p. record { trees = p.0; limit = p.1 }) (λ _. refl)

pub join_assoc : (ts us vs : Trees) → join (join ts us) vs ≡ join ts (join us vs)
join_assoc no_trees us vs = refl
join_assoc (token t rest) us vs = ap (token t) (join_assoc rest us vs)
join_assoc (group d from inside upto rest) us vs = ap (group d from inside upto) (join_assoc rest us vs)
