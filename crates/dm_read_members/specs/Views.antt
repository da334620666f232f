-- What the parts of methods and implementations stand for.
use Rattle.std.specs.Prelude.{Bool, List, map}
use Rattle.dm_stream.specs.declared.tokens.Ident.{Ident}
use Rattle.dm_output.specs.declared.expr.Block.{Block}
use Rattle.dm_output.specs.declared.item.Assoc.{Assoc}
use Rattle.dm_output.specs.declared.item.Method.{Method}
use Rattle.dm_output.specs.Views.{block_view, assoc_view, method_view}
use Rattle.dm_reread.specs.Items.{HeadTree}
use Rattle.dm_read_heads.specs.declared.head.Head.{Head}
use Rattle.dm_read_heads.specs.declared.signature.Signature.{Signature}
use Rattle.dm_read_heads.specs.Heads.{head_view}
use Rattle.dm_read_heads.specs.Signatures.{named_view}
use Rattle.dm_read_members.specs.Rows as rows

abbrev pub behind_view : (Ident × Signature) × Block → rows.Behind
behind_view v = (named_view v.0, block_view v.1)

abbrev pub unnamed_view : Bool × ((Ident × Signature) × Block) → Bool × rows.Behind
unnamed_view v = (v.0, behind_view v.1)

abbrev pub members_view : List Assoc × List Method → rows.Members
members_view m = (map assoc_view m.0, map method_view m.1)

abbrev pub unmarked_view : Head × (List Assoc × List Method) → HeadTree × rows.Members
unmarked_view v = (head_view v.0, members_view v.1)
