-- What is read from writable trees is written with writable trees, and comes back from its layout.
use Rattle.std.specs.Prelude.{◌≡◌, Bool}
use Rattle.dm_stream.specs.Trees.{Trees, join}
use Rattle.dm_lexer.specs.Written.{unplaced, AreWritable}
use Rattle.dm_ast.specs.Tree.{TypeTree}
use Rattle.dm_ast.specs.Spelling.{Where, Marks}
use Rattle.dm_ast.specs.TypeGrammar.{type_spelled}
use Rattle.dm_ast.specs.TypeTokens.{type_trees}
use Rattle.dm_ast.specs.Runs.{last_alone}
use Rattle.dm_type_eq.specs.BareTokens.{tokens_of}

-- the type in front of writable trees is written with writable ones, and so are the trees behind it
abbrev pub TypesStayWritable : Type 0
TypesStayWritable =
    (x : TypeTree) (single : Bool) (w : Where) (ts others : Trees) (m : Marks) → type_spelled x single w ts others m → AreWritable ts →
    AreWritable (type_trees x) × AreWritable others

-- an opaque part, whose last punct is joint to nothing, is writable as the front of writable trees
abbrev pub FrontsStayWritable : Type 0
FrontsStayWritable = (front others : Trees) → AreWritable (join front others) → AreWritable (last_alone front)

-- trees that are the same, ranges aside, have the same tokens
abbrev pub SameTreesSameTokens : Type 0
SameTreesSameTokens = (ts us : Trees) → unplaced ts ≡ unplaced us → tokens_of ts ≡ tokens_of us
