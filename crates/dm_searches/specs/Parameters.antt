-- The parameters that a search looks for. Names are compared without `r#`.
use Rattle.std.specs.Prelude.{ℕ, Bool, false, List, [], ◌∷◌, map, Option, Some, None}
use Rattle.std.specs.Borrow.{Bor}
use Rattle.std.specs.Str.{bytes_eq}
use Rattle.dm_stream.specs.declared.tokens.Ident.{Ident}
use Rattle.dm_stream.specs.declared.tokens.Lifetime.{Lifetime}
use Rattle.dm_ast.specs.Idents.{segment_ident}
use Rattle.dm_ast.specs.Tree.{SegmentTrees, no_segments, segment_then}
use Rattle.dm_ast.specs.Declarations.{ParamTree, lifetime_param, type_param, const_param, GenericsTree}
use Rattle.dm_searches.specs.declared.search.GenericsSearch.{GenericsSearch}

pub record Parameters : Type 0 where
  pub types : List Ident
  pub lifetimes : List Lifetime
  pub consts : List Ident

-- what the references of a list point to
abbrev pub lent : {A : Type 0} → List (Bor A) → List A
lent rs = map (λ r. r.now) rs

-- the parameters of a search
abbrev pub looked_for : GenericsSearch → Parameters
looked_for s = record { types = lent s.types; lifetimes = lent s.lifetimes; consts = lent s.consts }

-- ---- the parameters that are declared, in their order

abbrev pub declared_types : List ParamTree → List Ident
declared_types [] = []
declared_types (lifetime_param attrs l bs ∷ ps) = declared_types ps
declared_types (type_param attrs i bs default ∷ ps) = i ∷ declared_types ps
declared_types (const_param attrs i t default ∷ ps) = declared_types ps

abbrev pub declared_lifetimes : List ParamTree → List Lifetime
declared_lifetimes [] = []
declared_lifetimes (lifetime_param attrs l bs ∷ ps) = l ∷ declared_lifetimes ps
declared_lifetimes (type_param attrs i bs default ∷ ps) = declared_lifetimes ps
declared_lifetimes (const_param attrs i t default ∷ ps) = declared_lifetimes ps

abbrev pub declared_consts : List ParamTree → List Ident
declared_consts [] = []
declared_consts (lifetime_param attrs l bs ∷ ps) = declared_consts ps
declared_consts (type_param attrs i bs default ∷ ps) = declared_consts ps
declared_consts (const_param attrs i t default ∷ ps) = i ∷ declared_consts ps

abbrev pub declared_in : GenericsTree → Parameters
declared_in g =
    record {
      types = declared_types g.params.items;
      lifetimes = declared_lifetimes g.params.items;
      consts = declared_consts g.params.items;
    }

-- ---- names

abbrev pub is_named : List ℕ → Ident → Bool
is_named n i = bytes_eq i.name n

abbrev pub is_lifetime_named : List ℕ → Lifetime → Bool
is_lifetime_named n l = bytes_eq l.name n

-- whether there is a name, and it is this one
abbrev pub some_named : List ℕ → Option Ident → Bool
some_named n None = false
some_named n (Some i) = is_named n i

-- the first name of a path, where it has no arguments, as `T` in `T::Item`
abbrev pub bare_first : SegmentTrees → Option Ident
bare_first no_segments = None
bare_first (segment_then s ss) = segment_ident s
