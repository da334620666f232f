-- What the input reads is read wherever the list ends.
use Rattle.std.proofs.Common.{Some, Err, sym, ap, ◌∙◌, subst}
use Rattle.dm_stream.specs.Cursors.{left, end_of}
use Rattle.dm_stream.specs.Trees.{Trees}
use Rattle.dm_read.specs.DeclarationReaders as decl
use Rattle.dm_read_paths.specs.WholeReaders.{parts}
use Rattle.dm_read_decl.specs.ShapeViews.{angled_view}
use Rattle.dm_reread.specs.HeadLeaves.{read_generics}
use Rattle.dm_reread.proofs.FreeDeclarations.{generics_free}
use Rattle.dm_read_places.specs.Reads.{Reads}
use Rattle.dm_read_heads.proofs.HeadSteps.{found_free, failed_free}
use Rattle.dm_read_heads.proofs.head.front_params.Goals as goal

pub returns-in-Ok : goal.returns-in-Ok
returns-in-Ok c =
    ap read_generics (sym c.cursor.ensures.trees) ∙
    found_free angled_view (decl.read_generics parts) read_generics generics_free (end_of c.cursor.result) (left c.cursor.result) c.new-input.result
    c.generics.new.input c.in-Ok.found c.new-input.ensures c.in-Ok.ensures ∙
    ap (λ ts. Some (angled_view c.in-Ok.found, ts)) (sym (c.go.ensures ∙ c.cursor-in-Ok.ensures.trees))

pub returns-in-Err : goal.returns-in-Err
returns-in-Err c =
    subst (λ (ts : Trees). Reads angled_view read_generics ts (Err c.in-Err.error) c.args.place.now) c.cursor.ensures.trees
    (failed_free angled_view (decl.read_generics parts) read_generics generics_free (end_of c.cursor.result) (left c.cursor.result) c.args.place.now
    c.new-input.result c.generics.new.input c.in-Err.error c.new-input.ensures c.in-Err.ensures)
