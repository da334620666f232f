-- Attributes are the layout of their tokens.
use Rattle.std.specs.Prelude.{◌≡◌, IsTrue, refl}
use lib.Utf8.{encode}
use Rattle.dm_stream.specs.Layout.{Laid}
use Rattle.dm_layout.specs.Fixed.{is_fixed}
use Rattle.dm_output.specs.declared.item.ItemAttr.{ItemAttr}
use Rattle.dm_output.specs.declared.item.ItemAttr.TheVariants as attr
use Rattle.dm_output.specs.Tokens.{attr_trees, private_bounds, dead_code, deprecated, unreachable_code, non_upper_case_globals, unused_unit, automatically_derived, track_caller}
use Rattle.dm_print.specs.Attributes.{attr_text}
use Rattle.dm_print_types.specs.Laying.{lay, fix}

pub attr_fixed : (a : ItemAttr) → IsTrue (is_fixed (attr_text a))
unfolding attr_text encode
attr_fixed attr.AllowPrivateBounds = refl
attr_fixed attr.AllowDeadCodePrivateBounds = refl
attr_fixed attr.AllowDeprecated = refl
attr_fixed attr.AllowUnreachableCode = refl
attr_fixed attr.AllowNonUpperCaseGlobals = refl
attr_fixed attr.AllowUnusedUnit = refl
attr_fixed attr.AutomaticallyDerived = refl
attr_fixed attr.DocHidden = refl
attr_fixed attr.Inline = refl
attr_fixed attr.TrackCaller = refl

pub attr_laid : (s : Laid) (a : ItemAttr) → fix s (attr_text a) ≡ lay s (attr_trees a)
unfolding attr_text private_bounds dead_code deprecated unreachable_code non_upper_case_globals unused_unit automatically_derived track_caller
attr_laid s attr.AllowPrivateBounds = refl
attr_laid s attr.AllowDeadCodePrivateBounds = refl
attr_laid s attr.AllowDeprecated = refl
attr_laid s attr.AllowUnreachableCode = refl
attr_laid s attr.AllowNonUpperCaseGlobals = refl
attr_laid s attr.AllowUnusedUnit = refl
attr_laid s attr.AutomaticallyDerived = refl
attr_laid s attr.DocHidden = refl
attr_laid s attr.Inline = refl
attr_laid s attr.TrackCaller = refl
