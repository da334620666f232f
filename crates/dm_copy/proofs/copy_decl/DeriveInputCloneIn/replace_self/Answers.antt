use Rattle.dm_copy.proofs.Copies.{halves, thirds, same_list, same_option}
use Rattle.dm_copy.proofs.Parts.{declaration_made}
use Rattle.dm_copy.proofs.copy_decl.DeriveInputCloneIn.replace_self.Goals as goal

pub returns : goal.returns
returns c =
    let l = thirds _ _ _ _ _ _ _ c.in_ok-attrs.ensures.0 c.both-2.ensures c.both.ensures c.clone_in-attrs.ensures c.clone_in-vis.ensures c.clone_in-ident.ensures in
    let r = halves _ _ _ _ c.in_ok-attrs.ensures.1 c.both-3.ensures c.replace_self-generics.ensures c.replace_self-shape.ensures in
    declaration_made _ c.args.self.now _ _ _ _ _ (same_list _ _ l.0.0) (same_option _ _ l.0.1) l.1 r.0 r.1
