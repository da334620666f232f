-- What kinds of attributes are read from, and what several of them make.
use Rattle.std.specs.Prelude.{◌≡◌, ℕ, cond, Option, Some, None, Result, Ok, Err, codes}
use Rattle.dm_stream.specs.Trees.{Trees, Stream, no_trees, token}
use Rattle.dm_stream.specs.Cursors.{first_span}
use Rattle.dm_stream.specs.declared.tokens.Ident.{Ident}
use Rattle.dm_stream.specs.declared.tokens.Span.{Span}
use Rattle.dm_stream.specs.declared.tokens.Token.TheVariants as t
use Rattle.dm_stream.specs.declared.error.Kind.{Kind}
use Rattle.dm_stream.specs.declared.error.Kind.TheVariants.{AttrSyntax, AttrRepeated}
use Rattle.dm_stream.specs.declared.error.Refusal.{Refusal}
use Rattle.dm_ast.specs.declared.plain.Attribute.{Attribute}
use Rattle.dm_ast.specs.declared.plain.AttrArgs.{AttrArgs}
use Rattle.dm_ast.specs.declared.plain.AttrArgs.TheVariants as args
use Rattle.dm_attr.specs.declared.forward.Forward.{Forward}
use Rattle.dm_attr.specs.declared.spanning.Spanning.{Spanning}
use Rattle.dm_attr.specs.Examined.{is_spelled}

abbrev pub unread_at : {Y : Type 0} → Span → Result Y Refusal
unread_at at = Err (record { kind = AttrSyntax; span = at })

abbrev pub whole_or_unread : {T : Type 0} → Span → Option T → Result (T × Trees) Refusal
whole_or_unread at (Some x) = Ok (x, no_trees)
whole_or_unread at None = unread_at at

-- trees are read as a whole; those that don't read are refused at the first of them
abbrev pub ReadsWhole : {T : Type 0} → (Trees → Option T) → Trees → ℕ → Result (T × Trees) Refusal → Type 0
ReadsWhole value_of ts n answer = answer ≡ whole_or_unread (first_span ts n) (value_of ts)

-- a refusal to read is moved to the attribute; another one stays in its place
abbrev pub placed : Span → Kind → Span → Refusal
placed attribute AttrSyntax inner = record { kind = AttrSyntax; span = attribute }
placed attribute k inner = record { kind = k; span = inner }

-- the value of contents that are read to their end
abbrev pub read_to_end : {T : Type 0} → Span → Result (T × Trees) Refusal → Result T Refusal
read_to_end attribute (Ok (x, no_trees)) = Ok x
read_to_end attribute (Ok (x, rest)) = unread_at attribute
read_to_end attribute (Err r) = Err (placed attribute r.kind r.span)

-- what stands in delimiters behind an attribute's path
abbrev pub contents_in : AttrArgs → Option Stream
contents_in (args.List d inside) = Some inside
contents_in args.Absent = None
contents_in (args.Value o) = None

abbrev pub ReadsIn : {T : Type 0} → (Trees → ℕ → Result (T × Trees) Refusal → Type 0) → Span → Option Stream → Result T Refusal → Type 0
ReadsIn {T} reads at (Some s) answer = (read : Result (T × Trees) Refusal) × reads s.trees s.limit read × (answer ≡ read_to_end at read)
ReadsIn reads at None answer = answer ≡ unread_at at

-- the contents of an attribute, in any delimiters, are read to their end; where there are none, it doesn't read
abbrev pub ReadsContents : {T : Type 0} → (Trees → ℕ → Result (T × Trees) Refusal → Type 0) → Attribute → Result T Refusal → Type 0
ReadsContents reads a answer = ReadsIn reads a.span (contents_in a.args) answer

-- it may be given once
abbrev pub MergesNever : {T : Type 0} → Spanning T → Spanning T → Result (Spanning T) Refusal → Type 0
MergesNever prev next answer = answer ≡ Err (record { kind = AttrRepeated; span = next.span })

-- the one identifier that trees are
abbrev pub only_ident : Trees → Option Ident
only_ident (token (t.Ident i) no_trees) = Some i
only_ident _ = None

abbrev pub forward_named : Option Ident → Option Forward
forward_named None = None
forward_named (Some i) = cond (is_spelled (codes "forward") i) (Some (record {})) None

-- the one word `forward`
abbrev pub forward_in : Trees → Option Forward
forward_in ts = forward_named (only_ident ts)
