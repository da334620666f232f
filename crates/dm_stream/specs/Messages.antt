-- What refusals are told as.
use Rattle.std.specs.Prelude.{ℕ, List, ◌++◌, codes}
use Rattle.std.specs.Fmt.{decimal}
use Rattle.dm_stream.specs.declared.error.Refusal.{Refusal}
use Rattle.dm_stream.specs.declared.error.Error.{Error}
use Rattle.dm_stream.specs.declared.error.Error.TheVariants as error
use Rattle.dm_stream.specs.declared.error.Kind.{Kind}
use Rattle.dm_stream.specs.declared.error.Kind.TheVariants as kind

abbrev pub message_of : Kind → List ℕ
message_of kind.UnknownTrait = codes "no derive of this name"
message_of kind.Lex = codes "text is not made of tokens"
message_of kind.TooDeep = codes "nested deeper than 128"
message_of kind.Syntax = codes "not one struct, enum or union declaration"
message_of kind.Unsupported = codes "left out of this port"
message_of kind.DuplicateName = codes "name is declared twice"
message_of kind.ReservedName = codes "name is reserved"
message_of kind.WrongShape = codes "trait cannot be derived for this shape"
message_of kind.AllSkipped = codes "no field is left unskipped"
message_of kind.AttrSyntax = codes "attribute does not read here"
message_of kind.AttrNotAllowed = codes "attribute is not allowed here"
message_of kind.LegacySyntax = codes "attribute is in a legacy spelling"
message_of kind.AttrRepeated = codes "attribute may be given once"
message_of kind.AttrMixed = codes "attributes exclude each other"
message_of kind.FieldCount = codes "exactly one field is needed"
message_of kind.TupleLength = codes "listed type does not fit the fields"
message_of kind.FieldConflict = codes "two fields claim the same role"
message_of kind.MissingFormat = codes "a format is needed or cannot be used"
message_of kind.MissingAttr = codes "an attribute is needed"

-- the name of a kind, as it is declared
abbrev pub kind_name : Kind → List ℕ
kind_name kind.UnknownTrait = codes "UnknownTrait"
kind_name kind.Lex = codes "Lex"
kind_name kind.TooDeep = codes "TooDeep"
kind_name kind.Syntax = codes "Syntax"
kind_name kind.Unsupported = codes "Unsupported"
kind_name kind.DuplicateName = codes "DuplicateName"
kind_name kind.ReservedName = codes "ReservedName"
kind_name kind.WrongShape = codes "WrongShape"
kind_name kind.AllSkipped = codes "AllSkipped"
kind_name kind.AttrSyntax = codes "AttrSyntax"
kind_name kind.AttrNotAllowed = codes "AttrNotAllowed"
kind_name kind.LegacySyntax = codes "LegacySyntax"
kind_name kind.AttrRepeated = codes "AttrRepeated"
kind_name kind.AttrMixed = codes "AttrMixed"
kind_name kind.FieldCount = codes "FieldCount"
kind_name kind.TupleLength = codes "TupleLength"
kind_name kind.FieldConflict = codes "FieldConflict"
kind_name kind.MissingFormat = codes "MissingFormat"
kind_name kind.MissingAttr = codes "MissingAttr"

-- `KIND START..END: MESSAGE`
abbrev pub refusal_text : Refusal → List ℕ
refusal_text r =
    kind_name r.kind ++ (codes " " ++ (decimal r.span.start ++ (codes ".." ++ (decimal r.span.«end» ++ (codes ": " ++ message_of r.kind)))))

abbrev pub error_text : Error → List ℕ
error_text error.NoMemory = codes "out of memory"
error_text (error.Refused r) = refusal_text r
