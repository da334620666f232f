-- What the first tokens of a list of trees are, by what the calls of a cursor say.
use Rattle.std.proofs.Common.{◌≡◌, ◌≢◌, ℕ, Bool, true, false, not, ◌&&◌, nat_eq, List, Some, None, refl, ap}
use Rattle.std.proofs.lemmas.Grind.{common_steps}
use Rattle.dm_stream.specs.declared.tokens.Ident.{Ident}
use Rattle.dm_stream.specs.declared.tokens.Punct.{Punct}
use Rattle.dm_stream.specs.declared.tokens.Span.{Span}
use Rattle.dm_stream.specs.declared.tokens.Delim.{Delim}
use Rattle.dm_stream.specs.declared.tokens.Lifetime.{Lifetime}
use Rattle.dm_stream.specs.declared.tokens.Literal.{Literal}
use Rattle.dm_stream.specs.declared.tokens.Token.TheVariants as t
use Rattle.dm_stream.specs.Trees.{Trees, no_trees, token, group}
use Rattle.dm_stream.specs.Cursors.{first_ident, first_punct, first_lifetime, first_literal, first_tree, first_group, group_if, same_delim}
use Rattle.dm_ast.specs.Spelling.{at_end, sees, sees_one, one_of, sees_pair, sees_lone, sees_word, is_word, sees_colon, sees_lifetime, sees_literal, sees_group, is_joint}
use Rattle.dm_ast.specs.Readers.{tail}
use Rattle.dm_ast.specs.TypeGrammar.{is_truth, is_path_word, sees_path_word, is_input_name, sees_named}
use Rattle.dm_ast.specs.PlainReaders.{sees_truth}
use Rattle.dm_read.proofs.Deciding.{pair}

pub punct_front : (ts us : Trees) (p : Punct) → first_punct ts ≡ Some (p, us) → ts ≡ token (t.Punct p) us
punct_front (token (t.Punct q) rest) us p e = let f : pair q rest ≡ pair p us = cc in ap (λ v. token (t.Punct v.0) v.1) f
punct_front _ us p e = absurd (cc)

pub ident_front : (ts us : Trees) (i : Ident) → first_ident ts ≡ Some (i, us) → ts ≡ token (t.Ident i) us
ident_front (token (t.Ident q) rest) us i e = let f : pair q rest ≡ pair i us = cc in ap (λ v. token (t.Ident v.0) v.1) f
ident_front _ us i e = absurd (cc)

-- ---- puncts

pub sees_punct : (c : ℕ) (ts us : Trees) (p : Punct) → first_punct ts ≡ Some (p, us) → sees c ts ≡ nat_eq p.ch c
sees_punct c ts us p e = ap (sees c) (punct_front ts us p e)

pub sees_no_punct : (c : ℕ) (ts : Trees) → first_punct ts ≡ None → sees c ts ≡ false
sees_no_punct c (token (t.Punct q) rest) e = absurd (cc)
sees_no_punct c _ e = refl

pub one_punct : (cs : List ℕ) (ts us : Trees) (p : Punct) → first_punct ts ≡ Some (p, us) → sees_one cs ts ≡ one_of cs p.ch
one_punct cs ts us p e = ap (sees_one cs) (punct_front ts us p e)

pub one_no_punct : (cs : List ℕ) (ts : Trees) → first_punct ts ≡ None → sees_one cs ts ≡ false
one_no_punct cs (token (t.Punct q) rest) e = absurd (cc)
one_no_punct cs _ e = refl

pub pair_punct : (a b : ℕ) (ts us : Trees) (p : Punct) → first_punct ts ≡ Some (p, us) → sees_pair a b ts ≡ ((nat_eq p.ch a && is_joint p.spacing) && sees b us)
pair_punct a b ts us p e = ap (sees_pair a b) (punct_front ts us p e)

pub pair_no_punct : (a b : ℕ) (ts : Trees) → first_punct ts ≡ None → sees_pair a b ts ≡ false
pair_no_punct a b (token (t.Punct q) rest) e = absurd (cc)
pair_no_punct a b _ e = refl

pub lone_punct : (c : ℕ) (stops : List ℕ) (ts us : Trees) (p : Punct) → first_punct ts ≡ Some (p, us) →
    sees_lone c stops ts ≡ (nat_eq p.ch c && not (is_joint p.spacing && sees_one stops us))
lone_punct c stops ts us p e = ap (sees_lone c stops) (punct_front ts us p e)

pub lone_no_punct : (c : ℕ) (stops : List ℕ) (ts : Trees) → first_punct ts ≡ None → sees_lone c stops ts ≡ false
lone_no_punct c stops (token (t.Punct q) rest) e = absurd (cc)
lone_no_punct c stops _ e = refl

-- ---- words and other tokens

pub word_ident : (word : List ℕ) (ts us : Trees) (i : Ident) → first_ident ts ≡ Some (i, us) → sees_word word ts ≡ is_word word i
word_ident word ts us i e = ap (sees_word word) (ident_front ts us i e)

pub word_no_ident : (word : List ℕ) (ts : Trees) → first_ident ts ≡ None → sees_word word ts ≡ false
word_no_ident word (token (t.Ident q) rest) e = absurd (cc)
word_no_ident word _ e = refl

pub sees_some_lifetime : (ts us : Trees) (l : Lifetime) → first_lifetime ts ≡ Some (l, us) → sees_lifetime ts ≡ true
sees_some_lifetime (token (t.Lifetime q) rest) us l e = refl
sees_some_lifetime _ us l e = absurd (cc)

pub sees_no_lifetime : (ts : Trees) → first_lifetime ts ≡ None → sees_lifetime ts ≡ false
sees_no_lifetime (token (t.Lifetime q) rest) e = absurd (cc)
sees_no_lifetime _ e = refl

pub sees_no_literal : (ts : Trees) → first_literal ts ≡ None → sees_literal ts ≡ false
sees_no_literal (token (t.Literal q) rest) e = absurd (cc)
sees_no_literal _ e = refl

pub sees_some_literal : (ts us : Trees) (l : Literal) → first_literal ts ≡ Some (l, us) → sees_literal ts ≡ true
sees_some_literal (token (t.Literal q) rest) us l e = refl
sees_some_literal _ us l e = absurd (cc)

group_found : (b : Bool) (d : Delim) (inside rest us vs : Trees) (upto : Span) (n : ℕ) → group_if b inside upto rest ≡ Some (us, n, vs) → b ≡ true
group_found true d inside rest us vs upto n e = refl
group_found false d inside rest us vs upto n e = absurd (cc)

pub sees_some_group : (d : Delim) (ts us vs : Trees) (n : ℕ) → first_group d ts ≡ Some (us, n, vs) → sees_group d ts ≡ true
sees_some_group d (group e from inside upto rest) us vs n h = group_found (same_delim e d) d inside rest us vs upto n h
sees_some_group d _ us vs n h = absurd (cc)

group_missed : (b : Bool) (inside rest : Trees) (upto : Span) → group_if b inside upto rest ≡ None → b ≡ false
group_missed true inside rest upto e = absurd (cc)
group_missed false inside rest upto e = refl

pub sees_no_group : (d : Delim) (ts : Trees) → first_group d ts ≡ None → sees_group d ts ≡ false
sees_no_group d (group e from inside upto rest) h = group_missed (same_delim e d) inside rest upto h
sees_no_group d _ h = refl

pub ends_here : (ts : Trees) → ts ≡ no_trees → at_end ts ≡ true
ends_here ts e = ap at_end e

pub goes_on : (ts : Trees) → ts ≢ no_trees → at_end ts ≡ false
goes_on no_trees n = absurd (n refl)
goes_on (token k rest) n = refl
goes_on (group d from inside upto rest) n = refl

-- ---- what follows

pub tail_tree : (ts a b : Trees) → first_tree ts ≡ Some (a, b) → tail ts ≡ b
tail_tree no_trees a b e = absurd (cc)
tail_tree (token k rest) a b e = let f : pair (token k no_trees) rest ≡ pair a b = cc in ap (λ v. v.1) f
tail_tree (group d from inside upto rest) a b e = let f : pair (group d from inside upto no_trees) rest ≡ pair a b = cc in ap (λ v. v.1) f

pub tail_none : (ts : Trees) → first_tree ts ≡ None → tail ts ≡ ts
tail_none no_trees e = refl
tail_none (token k rest) e = absurd (cc)
tail_none (group d from inside upto rest) e = absurd (cc)

pub ruleset seeing_steps = (common_steps, sees_punct, sees_no_punct, one_punct, one_no_punct, pair_punct, pair_no_punct, lone_punct, lone_no_punct, word_ident, word_no_ident, sees_some_lifetime, sees_no_lifetime, sees_some_literal, sees_no_literal, sees_some_group, sees_no_group, ends_here, goes_on, tail_tree, tail_none)

pub truth_ident : (ts us : Trees) (i : Ident) → first_ident ts ≡ Some (i, us) → sees_truth ts ≡ is_truth i
truth_ident ts us i e = ap sees_truth (ident_front ts us i e)

pub truth_no_ident : (ts : Trees) → first_ident ts ≡ None → sees_truth ts ≡ false
truth_no_ident (token (t.Ident q) rest) e = absurd (cc)
truth_no_ident _ e = refl

pub ruleset truth_steps = (common_steps, truth_ident, truth_no_ident)

pub path_word_no_ident : (ts : Trees) → first_ident ts ≡ None → sees_path_word ts ≡ false
path_word_no_ident (token (t.Ident q) rest) e = absurd (cc)
path_word_no_ident _ e = refl

pub path_word_ident : (ts us : Trees) (i : Ident) → first_ident ts ≡ Some (i, us) → sees_path_word ts ≡ is_path_word i
path_word_ident ts us i e = ap sees_path_word (ident_front ts us i e)

pub ruleset path_word_steps = (common_steps, path_word_ident, path_word_no_ident)

pub named_ident : (ts us : Trees) (i : Ident) → first_ident ts ≡ Some (i, us) → sees_named ts ≡ (is_input_name i && sees_colon us)
named_ident ts us i e = ap sees_named (ident_front ts us i e)

pub named_no_ident : (ts : Trees) → first_ident ts ≡ None → sees_named ts ≡ false
named_no_ident (token (t.Ident q) rest) e = absurd (cc)
named_no_ident _ e = refl

pub ruleset named_steps = (common_steps, named_ident, named_no_ident)
