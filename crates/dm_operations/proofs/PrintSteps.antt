-- Steps of an implementation that is printed without its tree.
use Rattle.std.proofs.Common.{◌≡◌, [], ◌∷◌, map, Bool, false, Option, Some, None, codes, refl, sym, ap, ◌∙◌}
use Rattle.dm_stream.specs.declared.tokens.Delim.TheVariants.{Paren, Brace}
use Rattle.dm_stream.specs.Layout.{Laid, nowhere}
use Rattle.dm_stream.specs.Trees.{Trees, no_trees, join}
use Rattle.dm_ast.specs.Tree.{PathTree}
use Rattle.dm_ast.specs.TypeTokens.{given, name, type_trees, path_trees}
use Rattle.dm_output.specs.declared.item.Receiver.{Receiver}
use Rattle.dm_output.specs.Output.{ParamOfMethod, MethodTree, ItemTree}
use Rattle.dm_output.specs.Tokens.{word, comma, enclosed, in_turn, attr_trees, params_trees, trait_trees, where_trees, assoc_trees, receiver_trees, method_param_trees, inputs_trees, output_trees, signature_trees, method_trees, head_trees, item_trees}
use Rattle.dm_print_types.specs.Laying.{lay, begun, done}
use Rattle.dm_print_types.proofs.Laying.{lay-join}
use Rattle.dm_operations.specs.Items.{more_input}
use Rattle.dm_sides.proofs.Patterns.{pattern_steps}

-- ---- the head of an implementation

seven-laid : (s : Laid) (a b c d e f g : Trees) →
    lay (lay (lay (lay (lay (lay s (join a b)) c) d) e) f) g ≡ lay s (join a (join b (join c (join (join d e) (join f g)))))
seven-laid s a b c d e f g =
    let two = lay (lay s a) b in
    let three = lay two c in
    ap (λ (l : Laid). lay (lay (lay (lay (lay l c) d) e) f) g) (lay-join s a b) ∙
    sym (lay-join s a (join b (join c (join (join d e) (join f g)))) ∙ lay-join (lay s a) b (join c (join (join d e) (join f g))) ∙
    lay-join two c (join (join d e) (join f g)) ∙ lay-join three (join d e) (join f g) ∙
    ap (λ (l : Laid). lay l (join f g)) (lay-join three d e) ∙ lay-join (lay (lay three d) e) f g)

-- attributes and `impl`, the parameters, the trait, `for`, the type, and the predicates
pub head-laid : (s : Laid) (i : ItemTree) (p : PathTree) → i.trait_path ≡ Some p →
    lay (lay (lay (lay (lay (lay s (join (in_turn (map attr_trees i.attrs)) (word (codes "impl")))) (params_trees i.params)) (path_trees nowhere p)) (word (codes "for")))
    (type_trees i.ty)) (where_trees i.predicates) ≡ lay s (head_trees i)
head-laid s i p path =
    let attrs = in_turn (map attr_trees i.attrs) in
    seven-laid s attrs (word (codes "impl")) (params_trees i.params) (path_trees nowhere p) (word (codes "for")) (type_trees i.ty) (where_trees i.predicates) ∙
    ap (λ (t : Option PathTree). lay s (join attrs (join (word (codes "impl")) (join (params_trees i.params) (join (trait_trees t)
    (join (type_trees i.ty) (where_trees i.predicates))))))) (sym path)

-- ---- the head of a method

-- the operands in parentheses
pub operands-laid : (s : Laid) (r : Receiver) (p : Option ParamOfMethod) →
    done (lay (lay (begun s Paren) (receiver_trees r)) (more_input p)) Paren ≡ lay s (enclosed Paren (inputs_trees (Some r) p))
operands-laid s r None = refl
operands-laid s r (Some p) =
    ap (λ (l : Laid). done l Paren) (sym (lay-join (begun s Paren) (receiver_trees r) (join comma (method_param_trees p))))

five-laid : (s : Laid) (a b c d e : Trees) → lay (lay (lay (lay s (join a b)) c) d) e ≡ lay s (join a (join b (join c (join d e))))
five-laid s a b c d e =
    let two = lay (lay s a) b in
    ap (λ (l : Laid). lay (lay (lay l c) d) e) (lay-join s a b) ∙
    sym (lay-join s a (join b (join c (join d e))) ∙ lay-join (lay s a) b (join c (join d e)) ∙ lay-join two c (join d e) ∙ lay-join (lay two c) d e)

-- attributes and `fn`, the name, the operands, and what is returned
pub signature-laid : (s : Laid) (m : MethodTree) → m.is_const ≡ false →
    lay (lay (lay (lay s (join (in_turn (map attr_trees m.attrs)) (word (codes "fn")))) (name m.name)) (enclosed Paren (inputs_trees m.receiver m.param)))
    (output_trees m.output) ≡ lay s (signature_trees m)
signature-laid s m plain =
    let attrs = in_turn (map attr_trees m.attrs) in
    let inputs = enclosed Paren (inputs_trees m.receiver m.param) in
    five-laid s attrs (word (codes "fn")) (name m.name) inputs (output_trees m.output) ∙
    ap (λ (b : Bool). lay s (join attrs (join (given b (word (codes "const"))) (join (word (codes "fn")) (join (name m.name) (join inputs (output_trees m.output)))))))
    (sym plain)

-- ---- the whole

-- the head, and in braces the associated types and the only method
pub item-laid : (s : Laid) (i : ItemTree) (m : MethodTree) → i.methods ≡ m ∷ [] →
    done (lay (lay (begun (lay s (head_trees i)) Brace) (in_turn (map assoc_trees i.assocs))) (method_trees m)) Brace ≡ lay s (item_trees i)
item-laid s i m only =
    let types = in_turn (map assoc_trees i.assocs) in
    let start = begun (lay s (head_trees i)) Brace in
    ap (λ (l : Laid). done l Brace) (
    sym (lay-join (lay start types) (method_trees m) no_trees) ∙ sym (lay-join start types (join (method_trees m) no_trees)) ∙
    ap (λ ms. lay start (join types (in_turn (map method_trees ms)))) (sym only)) ∙
    sym (lay-join s (head_trees i) (enclosed Brace (join types (in_turn (map method_trees i.methods)))))

pub ruleset printing_steps = (pattern_steps)
