-- Types: their reader decides them at every place, and so does that of one bound.
use Rattle.std.proofs.Common.{◌≡◌, ℕ, ◌+◌, ◌<◌, Bool, true, false, if◌then◌else◌, nat_eq, codes, refl, sym, ap, ◌∙◌, arith}
use Rattle.dm_stream.specs.declared.tokens.Delim.{Delim}
use Rattle.dm_stream.specs.declared.tokens.Delim.TheVariants.{Paren, Bracket, Brace}
use Rattle.dm_stream.specs.declared.tokens.Ident.{Ident}
use Rattle.dm_stream.specs.declared.tokens.Token.TheVariants as t
use Rattle.dm_stream.specs.Trees.{Trees, no_trees, token, group}
use Rattle.dm_read_paths.specs.declared.kind.NodeKind.{NodeKind}
use Rattle.dm_read_paths.specs.declared.kind.NodeKind.TheVariants as kind
use Rattle.dm_read_paths.specs.declared.kind.Mode.{Mode}
use Rattle.dm_read_paths.specs.declared.kind.Mode.TheVariants.{Whole, Single, PathOnly}
use Rattle.dm_ast.specs.Spelling.{Where, deeper, deepest, is_word}
use Rattle.dm_ast.specs.TypeGrammar.{sees_macro, type_spelled, path_spelled, arguments, bound}
use Rattle.dm_ast.specs.Tree.{TypeTree}
use Rattle.dm_ast.specs.Readers.{Parser}
use Rattle.dm_read_paths.specs.TypeReaders.{punct_kind, begins_function, word_kind, delim_kind, front_kind, node_kind, inner_path, read_bound, read_arguments, read_path, read_level, read_type}
use Rattle.dm_read.proofs.Deciding.{Reader}
use Rattle.dm_read_paths.proofs.TypeRules.{moded, ReadsDeeper}
use Rattle.dm_grammar_laws.proofs.BracketRules.{round_rule, square_rule, reference_rule}
use Rattle.dm_grammar_laws.proofs.SmallRules.{infer_rule, never_rule, path_rule, call_rule}
use Rattle.dm_grammar_laws.proofs.PointerNodes.{pointer_rule}
use Rattle.dm_grammar_laws.proofs.FunctionRules.{function_rule}
use Rattle.dm_read_paths.proofs.QualifiedRules.{qualified_rule}
use Rattle.dm_read_paths.proofs.BoundRules.{reads_bound, reads_inner_path}
use Rattle.dm_grammar_laws.proofs.ObjectRules.{object_rule, implied_rule}
use Rattle.dm_read_paths.proofs.ArgumentRules.{reads_arguments}
use Rattle.dm_read_paths.proofs.Paths.{reads_path}
use Rattle.dm_grammar_laws.proofs.Types.{Rules, reads_level, reads_type_by}

-- ---- only a macro call has its rule

abbrev NoCall : NodeKind → Type 0
NoCall k = k ≡ kind.Call → ⊥

either_no_call : (b : Bool) (x y : NodeKind) → NoCall x → NoCall y → NoCall (if b then x else y)
either_no_call true x y f g = f
either_no_call false x y f g = g

punct_no_call : (c : ℕ) → NoCall (punct_kind c)
punct_no_call c =
    either_no_call (nat_eq c 38) kind.Reference (if nat_eq c 42 then kind.Pointer else (if nat_eq c 33 then kind.Never else (if nat_eq c 60 then kind.Qualified else kind.Path))) (λ e. absurd (cc))
    (either_no_call (nat_eq c 42) kind.Pointer (if nat_eq c 33 then kind.Never else (if nat_eq c 60 then kind.Qualified else kind.Path)) (λ e. absurd (cc))
    (either_no_call (nat_eq c 33) kind.Never (if nat_eq c 60 then kind.Qualified else kind.Path) (λ e. absurd (cc))
    (either_no_call (nat_eq c 60) kind.Qualified kind.Path (λ e. absurd (cc)) (λ e. absurd (cc)))))

word_no_call : (i : Ident) → NoCall (word_kind i)
word_no_call i =
    either_no_call (begins_function i) kind.Function
    (if is_word (codes "dyn") i then kind.Object else (if is_word (codes "impl") i then kind.Implied else (if is_word (codes "_") i then kind.Infer else kind.Path))) (λ e. absurd (cc))
    (either_no_call (is_word (codes "dyn") i) kind.Object (if is_word (codes "impl") i then kind.Implied else (if is_word (codes "_") i then kind.Infer else kind.Path)) (λ e. absurd (cc))
    (either_no_call (is_word (codes "impl") i) kind.Implied (if is_word (codes "_") i then kind.Infer else kind.Path) (λ e. absurd (cc))
    (either_no_call (is_word (codes "_") i) kind.Infer kind.Path (λ e. absurd (cc)) (λ e. absurd (cc)))))

delim_no_call : (d : Delim) → NoCall (delim_kind d)
delim_no_call Paren = λ e. absurd (cc)
delim_no_call Bracket = λ e. absurd (cc)
delim_no_call Brace = λ e. absurd (cc)

front_no_call : (ts : Trees) → NoCall (front_kind ts)
front_no_call no_trees = λ e. absurd (cc)
front_no_call (token (t.Punct p) rest) = punct_no_call p.ch
front_no_call (token (t.Ident i) rest) = word_no_call i
front_no_call (token (t.Literal l) rest) = λ e. absurd (cc)
front_no_call (token (t.Lifetime l) rest) = λ e. absurd (cc)
front_no_call (group d from inside upto rest) = delim_no_call d

is_call : (ts : Trees) → node_kind ts ≡ kind.Call → (b : Bool) → sees_macro ts ≡ b → b ≡ true
is_call ts e true f = refl
is_call ts e false f = absurd (front_no_call ts (sym (ap (λ b. if b then kind.Call else front_kind ts) f) ∙ e))

no_call : (ts : Trees) (k : NodeKind) → node_kind ts ≡ k → NoCall k → (b : Bool) → sees_macro ts ≡ b → b ≡ false
no_call ts k e n false f = refl
no_call ts k e n true f = absurd (n (sym e ∙ ap (λ b. if b then kind.Call else front_kind ts) f))

-- ---- each rule decides its nodes

module _ (inner : Mode → Where → Parser TypeTree) (w : Where) (h : ReadsDeeper inner w.level) where
  arguments_deeper : (v : Where) → w.level < v.level → Reader (λ r. arguments r.0 r.1 v) (read_arguments inner v)
  arguments_deeper v e = reads_arguments inner w.level v e h

  paths : Reader (λ p. path_spelled p w) (read_path inner w)
  paths = reads_path inner w h (arguments_deeper (deeper w) (omega arith))

  rules : Rules inner w
  rules kind.Call single ts e = call_rule inner single w ts e (is_call ts e (sees_macro ts) refl)
  rules kind.Round single ts e = round_rule inner single w h ts e (no_call ts kind.Round e (λ q. absurd (cc)) (sees_macro ts) refl)
  rules kind.Square single ts e = square_rule inner single w h ts e (no_call ts kind.Square e (λ q. absurd (cc)) (sees_macro ts) refl)
  rules kind.Reference single ts e = reference_rule inner single w h ts e (no_call ts kind.Reference e (λ q. absurd (cc)) (sees_macro ts) refl)
  rules kind.Pointer single ts e = pointer_rule inner single w h ts e (no_call ts kind.Pointer e (λ q. absurd (cc)) (sees_macro ts) refl)
  rules kind.Function single ts e = function_rule inner single w h ts e (no_call ts kind.Function e (λ q. absurd (cc)) (sees_macro ts) refl)
  rules kind.Object single ts e = object_rule inner single w h ts e (no_call ts kind.Object e (λ q. absurd (cc)) (sees_macro ts) refl)
  rules kind.Implied single ts e = implied_rule inner single w h ts e (no_call ts kind.Implied e (λ q. absurd (cc)) (sees_macro ts) refl)
  rules kind.Infer single ts e = infer_rule inner single w ts e (no_call ts kind.Infer e (λ q. absurd (cc)) (sees_macro ts) refl)
  rules kind.Never single ts e = never_rule inner single w ts e (no_call ts kind.Never e (λ q. absurd (cc)) (sees_macro ts) refl)
  rules kind.Qualified single ts e = qualified_rule inner single w h arguments_deeper ts e (no_call ts kind.Qualified e (λ q. absurd (cc)) (sees_macro ts) refl)
  rules kind.Path single ts e = path_rule inner single w paths ts e (no_call ts kind.Path e (λ q. absurd (cc)) (sees_macro ts) refl)

  reads_one_level : (mode : Mode) → Reader (λ x. moded mode x w) (read_level inner mode w)
  reads_one_level = reads_level inner w rules paths

-- ---- types at every place

pub reads_type : (depth : ℕ) (mode : Mode) (w : Where) → deepest < depth + w.level → Reader (λ x. moded mode x w) (read_type depth mode w)
reads_type = reads_type_by reads_one_level

-- as deep as the levels may go
pub type_decided : (w : Where) → Reader (λ x. type_spelled x false w) (read_type 129 Whole w)
type_decided w = reads_type 129 Whole w (omega arith)

-- directly behind `&`, `*` and `->`
pub single_decided : (w : Where) → Reader (λ x. type_spelled x true w) (read_type 129 Single w)
single_decided w = reads_type 129 Single w (omega arith)

pub path_decided : (w : Where) → Reader (λ p. path_spelled p w) (inner_path (read_type 129) w)
path_decided w = reads_inner_path (read_type 129) w (reads_type 129 PathOnly w (omega arith))

pub bound_decided : (w : Where) → Reader (λ b. bound b w) (read_bound (read_type 129) (inner_path (read_type 129)) w)
bound_decided w = reads_bound (read_type 129) (inner_path (read_type 129)) w (λ v e. path_decided v)
