-- What the steps of reading say of a text.
use Rattle.std.proofs.Common.{◌≡◌, ℕ, List, length, Ok, Err, ap, sym, subst, ◌∙◌, inl, inr}
use Rattle.dm_stream.specs.declared.error.Error.{Error}
use Rattle.dm_stream.specs.declared.error.Error.TheVariants.{NoMemory, Refused}
use Rattle.dm_stream.specs.Trees.{Trees}
use Rattle.dm_stream.specs.declared.levels.TheConstants.{DEEPEST}
use Rattle.dm_lexer.specs.Rows.{Reading}
use Rattle.dm_lexer.specs.Nesting.{first_deep, IsTreesOf, AreTheOnly, IsRefusalOf, IsWhole}
use Rattle.dm_lexer.specs.Written.{AreWritable, AreShallow}
use Rattle.dm_ast.specs.declared.decl.DeriveInput.{DeriveInput}
use Rattle.dm_ast.specs.Declarations.{Declaration, declaration_view}
use Rattle.dm_ast.specs.Parsed.{SpelledBy, IsTheDeclaration, IsUnread, IsRefusal}
use Rattle.dm_ast.specs.Names.{Named, IsNamesError}
use Rattle.dm_operands.specs.Readable.{IsReadable}
use Rattle.dm_printed.specs.Texts.{IsOfText}
use Rattle.dm_printed.specs.Derived.{AreTrees, IsRead, Reads}

pub not-lexed : (text : List ℕ) (e : Error) → IsRefusalOf text e → Reads text (Err e)
not-lexed text NoMemory h = tt
not-lexed text (Refused r) h = inl (record { refused = h })

-- what lexing gives of a text
pub record IsLexed (text : List ℕ) (limit : ℕ) (ts : Trees) : Type 0 where
  pub trees : IsTreesOf text ts
  pub only : AreTheOnly text ts
  pub limit_is : limit ≡ length text
  pub whole : IsWhole text

are-trees : (text : List ℕ) (limit : ℕ) (ts : Trees) → IsLexed text limit ts → AreTrees text ts
are-trees text limit ts l = record { whole = l.whole; are_trees = l.trees }

pub not-parsed : (text : List ℕ) (limit : ℕ) (ts : Trees) (e : Error) → IsLexed text limit ts → IsRefusal e limit ts → Reads text (Err e)
not-parsed text limit ts NoMemory l h = tt
not-parsed text limit ts (Refused r) l h =
    inr (inl (record { trees = ts; are_trees = are-trees text limit ts l; unread = subst (λ n. IsUnread r.kind r.span n ts) l.limit_is h }))

pub is-read : (text : List ℕ) (limit : ℕ) (ts : Trees) (d : Declaration) → IsLexed text limit ts → IsTheDeclaration d limit ts → IsRead text d
is-read text limit ts d l h =
    let whole : IsTheDeclaration d (length text) ts = subst (λ n. IsTheDeclaration d n ts) l.limit_is h in
    record {
      trees = ts;
      are_trees = are-trees text limit ts l;
      is_the_one = whole;
      only = λ e g. (whole.only e g.marks (subst (λ us. SpelledBy e (length text) us g.marks) (l.only g.trees g.are_trees) g.spelled)).0;
    }

-- none of its trees stands inside more groups than are read
shallow : (text : List ℕ) (limit : ℕ) (ts : Trees) → IsLexed text limit ts → AreShallow ts
shallow text limit ts l = sym (ap (λ (r : Reading). first_deep DEEPEST 0 r.lexemes) l.trees) ∙ l.whole.shallow

-- what was read is what the reader gives of a text
pub of-text : (text : List ℕ) (limit : ℕ) (ts : Trees) (d : Declaration) → IsLexed text limit ts → AreWritable ts → IsTheDeclaration d limit ts →
    Named d → IsOfText d
of-text text limit ts d l w h named =
    record {
      limit = limit;
      trees = ts;
      marks = h.marks;
      spelled = h.there;
      within = h.within;
      writable = w;
      shallow = shallow text limit ts l;
      named = named;
    }

pub misnamed : (text : List ℕ) (limit : ℕ) (ts : Trees) (d : Declaration) (e : Error) → IsTheDeclaration d limit ts → IsLexed text limit ts →
    IsNamesError d e → Reads text (Err e)
misnamed text limit ts d NoMemory h l m = tt
misnamed text limit ts d (Refused r) h l m = inr (inr (record { declaration = d; is_read = is-read text limit ts d l h; misnamed = m }))

-- what was read can be printed
pub can-expand : (text : List ℕ) (d : DeriveInput) → Reads text (Ok d) → IsReadable (declaration_view d)
can-expand text d h =
    let one = h.0.is_the_one in
    record { limit = length text; trees = h.0.trees; marks = one.marks; spelled = one.there; named = h.1 }

pub ruleset reading_steps = (not-lexed, not-parsed, is-read, of-text, misnamed)
