-- The type that the input read.
use Rattle.std.proofs.Common.{◌≡◌, Some, Ok, sym, ap, ◌∙◌, subst}
use Rattle.dm_stream.specs.Cursors.{left, end_of}
use Rattle.dm_ast.specs.Tree.{ty_view}
use Rattle.dm_input.specs.State.{State}
use Rattle.dm_read_paths.specs.WholeReaders.{whole_type}
use Rattle.dm_reread.specs.TypeLeaves.{read_type}
use Rattle.dm_read_leaves.proofs.TypeSteps.{type_read}
use Rattle.dm_read_leaves.proofs.ty.front_type.Goals as goal

pub returns : goal.returns
returns c =
    let x = ty_view c.in_ok-found.found in
    let e : whole_type (record { level = 0; limit = end_of c.cursor.result }) (left c.cursor.result) ≡ Ok (x, c.ty.new.input.trees) =
    subst (λ (s : State). whole_type s.at s.trees ≡ Ok (x, c.ty.new.input.trees)) c.new-input.ensures c.in_ok-found.ensures.0 in
    ap read_type (sym c.cursor.ensures.trees) ∙ type_read (end_of c.cursor.result) (left c.cursor.result) c.ty.new.input.trees x e ∙
    ap (λ ts. Some (x, ts)) (sym (c.go.ensures ∙ c.cursor-2.ensures.trees))
