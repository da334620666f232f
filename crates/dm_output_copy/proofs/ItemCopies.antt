-- An implementation and a method of parts that are seen as theirs.
use Rattle.std.proofs.Common.{◌≡◌, List, map, Option, option_map}
use Rattle.dm_stream.specs.declared.tokens.Ident.{Ident}
use Rattle.dm_ast.specs.declared.decl.GenericParam.{GenericParam}
use Rattle.dm_ast.specs.declared.decl.WherePredicate.{WherePredicate}
use Rattle.dm_ast.specs.declared.ty.Path.{Path}
use Rattle.dm_ast.specs.declared.ty.Ty.{Ty}
use Rattle.dm_ast.specs.Tree.{ty_view, path_view}
use Rattle.dm_ast.specs.Declarations.{param_view, predicate_view}
use Rattle.dm_output.specs.declared.expr.Block.{Block}
use Rattle.dm_output.specs.declared.item.ItemAttr.{ItemAttr}
use Rattle.dm_output.specs.declared.item.Assoc.{Assoc}
use Rattle.dm_output.specs.declared.item.MethodParam.{MethodParam}
use Rattle.dm_output.specs.declared.item.Item.{Item}
use Rattle.dm_output.specs.declared.item.Method.{Method}
use Rattle.dm_output.specs.Views.{block_view, assoc_view, method_param_view, method_view, item_view}

pub item_made : (i : Item) (as' : List ItemAttr) (ps : List GenericParam) (p : Option Path) (t : Ty) (ws : List WherePredicate)
    (types : List Assoc) (ms : List Method) →
    as' ≡ i.attrs → map param_view ps ≡ map param_view i.params → option_map path_view p ≡ option_map path_view i.trait_path →
    ty_view t ≡ ty_view i.ty → map predicate_view ws ≡ map predicate_view i.predicates → map assoc_view types ≡ map assoc_view i.assocs →
    map method_view ms ≡ map method_view i.methods →
    item_view (record { attrs = as'; params = ps; trait_path = p; ty = t; predicates = ws; assocs = types; methods = ms }) ≡ item_view i
item_made i as' ps p t ws types ms attrs params path ty predicates assocs methods =
    λ k. record {
      attrs = attrs k;
      params = params k;
      trait_path = path k;
      ty = ty k;
      predicates = predicates k;
      assocs = assocs k;
      methods = methods k;
    }

pub method_made : (m : Method) (as' : List ItemAttr) (n : Ident) (p : Option MethodParam) (o : Option Ty) (b : Block) →
    as' ≡ m.attrs → n ≡ m.name → option_map method_param_view p ≡ option_map method_param_view m.param →
    option_map ty_view o ≡ option_map ty_view m.output → block_view b ≡ block_view m.body →
    method_view (record { attrs = as'; is_const = m.is_const; name = n; receiver = m.receiver; param = p; output = o; body = b }) ≡
    method_view m
method_made m as' n p o b attrs name param output body =
    λ k. record {
      attrs = attrs k;
      is_const = m.is_const;
      name = name k;
      receiver = m.receiver;
      param = param k;
      output = output k;
      body = body k;
    }
