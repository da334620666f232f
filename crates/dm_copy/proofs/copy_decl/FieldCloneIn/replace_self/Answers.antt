use Rattle.dm_copy.proofs.Copies.{halves, same_list, same_option}
use Rattle.dm_copy.proofs.Parts.{field_made}
use Rattle.dm_copy.proofs.copy_decl.FieldCloneIn.replace_self.Goals as goal

pub returns : goal.returns
returns c =
    let l = halves _ _ _ _ c.in_ok-attrs.ensures.0 c.both.ensures c.clone_in-attrs.ensures c.clone_in-vis.ensures in
    let r = halves _ _ _ _ c.in_ok-attrs.ensures.1 c.both-2.ensures c.clone_in-ident.ensures c.replace_self-ty.ensures in
    field_made _ c.args.self.now _ _ _ _ (same_list _ _ l.0) (same_option _ _ l.1) (same_option _ _ r.0) r.1
