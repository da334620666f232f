use Rattle.dm_copy.proofs.Copies.{halves, same_list, same_option}
use Rattle.dm_copy.proofs.Parts.{const_param_made}
use Rattle.dm_copy.proofs.copy_decl.ConstParamCloneIn.replace_self.Goals as goal

pub returns : goal.returns
returns c =
    let l = halves _ _ _ _ c.in_ok-attrs.ensures.0 c.both.ensures c.clone_in-attrs.ensures c.clone_in-ident.ensures in
    let r = halves _ _ _ _ c.in_ok-attrs.ensures.1 c.both-2.ensures c.replace_self-ty.ensures c.clone_in-default_value.ensures in
    const_param_made _ c.args.self.now _ _ _ _ (same_list _ _ l.0) l.1 r.0 (same_option _ _ r.1)
