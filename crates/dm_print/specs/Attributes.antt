-- Attributes as they are laid out.
use Rattle.std.specs.Prelude.{ℕ, List, codes}
use Rattle.dm_output.specs.declared.item.ItemAttr.{ItemAttr}
use Rattle.dm_output.specs.declared.item.ItemAttr.TheVariants as attr

unfoldable pub attr_text : ItemAttr → List ℕ
attr_text attr.AllowPrivateBounds = codes "# [allow (private_bounds)]"
attr_text attr.AllowDeadCodePrivateBounds = codes "# [allow (dead_code , private_bounds)]"
attr_text attr.AllowDeprecated = codes "# [allow (deprecated)]"
attr_text attr.AllowUnreachableCode = codes "# [allow (unreachable_code)]"
attr_text attr.AllowNonUpperCaseGlobals = codes "# [allow (non_upper_case_globals)]"
attr_text attr.AllowUnusedUnit = codes "# [allow (clippy :: unused_unit)]"
attr_text attr.AutomaticallyDerived = codes "# [automatically_derived]"
attr_text attr.DocHidden = codes "# [doc (hidden)]"
attr_text attr.Inline = codes "# [inline]"
attr_text attr.TrackCaller = codes "# [track_caller]"
