use Rattle.std.proofs.lemmas.Result.{IfOk-at_ok}
use Rattle.dm_copy.proofs.Copies.{halves, maybe_listed_same}
use Rattle.dm_copy.proofs.Parts.{type_predicate_made}
use Rattle.dm_copy.proofs.copy_decl.WherePredicateCloneIn.replace_self.Goals as goal

pub returns-in_ok-lifetimes-in-Ty : goal.returns-in_ok-lifetimes-in-Ty
returns-in_ok-lifetimes-in-Ty c =
    let rest = halves _ _ _ _ c.in_ok-lifetimes-in-Ty.ensures.1 c.both-in-Ty.ensures c.replace_self-ty.ensures c.replace_self-bounds.ensures in
    let lifetimes = IfOk-at_ok _ c.in_ok-lifetimes-in-Ty.ensures.0 c.clone_in-lifetimes.ensures in
    type_predicate_made _ _ _ _ _ _ _ _ c.in-Ty.is (maybe_listed_same _ _ lifetimes) rest.0 rest.1
