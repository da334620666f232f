-- What parts of heads are laid out as.
use Rattle.std.proofs.Common.{◌≡◌, List, [], ◌∷◌, codes, Result, sym, ap, ◌∙◌}
use Rattle.std.specs.Prelude.{OnOk}
use Rattle.std.proofs.lemmas.List.{map-append}
use Rattle.dm_stream.specs.Layout.{Laid, nowhere}
use Rattle.dm_stream.specs.Trees.{Trees, no_trees, join}
use Rattle.dm_ast.specs.Tree.{TypeTree, ArgumentTree, type_arg}
use Rattle.dm_ast.specs.Implementors.{plain_path}
use Rattle.dm_ast.specs.TypeTokens.{type_trees, path_trees, arguments_trees}
use Rattle.dm_layout.proofs.Fixing.{on-ok}
use Rattle.dm_output.specs.Tokens.{punct, comma, semicolon, assoc_trees}
use Rattle.dm_print_types.specs.Laying.{lay, fix}
use Rattle.dm_print_types.proofs.Laying.{lay-join, print_steps}
use Rattle.dm_generics.specs.Words.{words}
use Rattle.dm_generics.proofs.Builders.{segments_of_plain}
use Rattle.dm_bounds.specs.RightSide.{right_type}
use Rattle.dm_operators.specs.Operators.{Operator}
use Rattle.dm_operators.specs.Predicates.{trait_with, angled}
use Rattle.dm_operators.specs.Heads.{result_of}
use Rattle.dm_operator_heads.specs.Outputs.{output_given, named}

-- what stands last in two lists, and a token behind both
last-laid : (s : Laid) (t p : Trees) → lay (lay s t) p ≡ lay s (join (join (join t no_trees) no_trees) p)
last-laid s t p =
    sym (lay-join s (join (join t no_trees) no_trees) p ∙
    ap (λ (l : Laid). lay l p) (lay-join s (join t no_trees) no_trees ∙ lay-join s t no_trees))

-- the trait's name, and its arguments
pub trait-laid : (s : Laid) (o : Operator) (gs : List ArgumentTree) →
    lay (lay s (path_trees nowhere (trait_with o []))) (arguments_trees nowhere (angled gs)) ≡ lay s (path_trees nowhere (trait_with o gs))
trait-laid s o gs = sym (lay-join (lay s (path_trees nowhere (trait_with o []))) (arguments_trees nowhere (angled gs)) no_trees)

-- a type behind what stands before it, and `>` behind the type
pub given-laid : {T E : Type 0} (r : Result T E) (t : TypeTree) (start front typed new last : Laid) → front ≡ start →
    typed ≡ lay front (type_trees t) → OnOk r (new ≡ lay typed (punct 62)) → lay (lay start (type_trees t)) (punct 62) ≡ last →
    OnOk r (new ≡ last)
given-laid r t start front typed new last before behind closed is =
    on-ok r (λ e. e ∙ ap (λ (l : Laid). lay l (punct 62)) (behind ∙ ap (λ (l : Laid). lay l (type_trees t)) before) ∙ is) closed

pub output-laid : (s : Laid) (t : TypeTree) →
    lay (lay (fix s (codes "< Output =")) (type_trees t)) (punct 62) ≡
    lay s (arguments_trees nowhere (angled (output_given t ∷ [])))
output-laid s t = last-laid (fix s (codes "< Output =")) (type_trees t) (punct 62)

pub both-laid : (s : Laid) (t : TypeTree) →
    lay (lay (fix s (codes "< __derive_more_Rhs , Output =")) (type_trees t)) (punct 62) ≡
    lay s (arguments_trees nowhere (angled (type_arg right_type ∷ output_given t ∷ [])))
both-laid s t = last-laid (fix s (codes "< __derive_more_Rhs , Output =")) (type_trees t) (punct 62)

-- a type in a `Result`
pub result-laid : (s : Laid) (t : TypeTree) →
    fix (lay (fix s (codes "derive_more :: core :: result :: Result <")) (type_trees t)) (codes ", derive_more :: UnitError >") ≡
    lay s (type_trees (result_of t (codes "derive_more" ∷ codes "UnitError" ∷ [])))
result-laid s t =
    let front : Laid = fix s (codes "derive_more :: core :: result :: Result <") in
    let error : Trees = path_trees nowhere (plain_path (words (codes "derive_more" ∷ codes "UnitError" ∷ []))) in
    let more : Trees = join comma (join error no_trees) in
    sym (lay-join front (join (join (join (type_trees t) more) no_trees) (punct 62)) no_trees ∙
    lay-join front (join (join (type_trees t) more) no_trees) (punct 62) ∙
    ap (λ (l : Laid). lay l (punct 62)) (lay-join front (join (type_trees t) more) no_trees ∙ lay-join front (type_trees t) more))

-- `type Output = T;`
pub named-laid : (s : Laid) (t : TypeTree) →
    lay (lay (fix s (codes "type Output =")) (type_trees t)) semicolon ≡ lay s (join (assoc_trees (named t)) no_trees)
named-laid s t =
    let front : Laid = fix s (codes "type Output =") in
    sym (lay-join front (join (type_trees t) semicolon) no_trees ∙ lay-join front (type_trees t) semicolon)

pub ruleset head_steps = (print_steps, map-append, segments_of_plain)
