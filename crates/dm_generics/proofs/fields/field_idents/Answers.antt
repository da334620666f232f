-- Each field has a name.
use Rattle.std.proofs.Common.{sym, subst, IsSome, Bor}
use Rattle.std.proofs.lemmas.List.Elements.{All-get_or}
use Rattle.dm_ast.specs.declared.decl.Field.{Field}
use Rattle.dm_generics.proofs.fields.field_idents.Goals as goal

pub name_of-requires : goal.name_of-requires
name_of-requires c =
    subst (λ (r : Bor Field). IsSome r.now.ident) (sym c.field-item.is)
    (All-get_or (λ (r : Bor Field). IsSome r.now.ident) c.args.fields.now c.loop-field.field-index c.field-item.result c.loop-field-test.true c.requires)
