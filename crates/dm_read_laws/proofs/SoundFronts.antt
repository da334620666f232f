-- What holds of each answer of a reader, step by step; and tokens that stand one behind the other.
use Rattle.std.specs.Prelude.{◌≡◌, Bool, true, false, cond, codes, Option, Some, None, refl}
use Rattle.std.proofs.Common.{ap, ◌∙◌}
use Rattle.std.proofs.lemmas.Option.{none-some}
use Rattle.dm_stream.specs.Trees.{Trees, no_trees, join}
use Rattle.dm_output.specs.Output.{ExprTree, ExprTrees}
use Rattle.dm_ast.specs.TypeTokens as syntax
use Rattle.dm_output.specs.Tokens as k
use Rattle.dm_output.specs.Tokens.{expr_trees, ended, each_named_expr, arms_trees, inside_trees}
use Rattle.dm_reread.specs.Leaves.{LeafGrammar, Answer}
use Rattle.dm_reread.specs.Next.{k_as, k_wild, Next, comma, colon, semicolon, assigns, plus, leads, literal, a_word}
use Rattle.dm_reread.specs.Reading.{then, provided, is_int, whole, comma_after, semicolon_after, leads_after, assigns_after, colon_after, plus_after, as_after, wild_after, int_after, Posts, Readers}
use Rattle.dm_reread.specs.Grammar.{Level, at_or, at_and, at_cmp, at_pre, Fits, IsExpr, Each, EachNamed, AreArms, IsBlock}
use Rattle.dm_reread.proofs.Posts.{posts_trees, ArePosts}
use Rattle.dm_reread.proofs.Laws.{tail}
use Rattle.dm_read_laws.specs.Sound.{IsBare, Spells}
use Rattle.dm_read_laws.proofs.SoundRows.{args_tail, Sound}
use Rattle.dm_read_laws.proofs.Answers.{then_by, whole_some, same_answer}
use Rattle.dm_read_laws.proofs.SoundSteps.{bare_rest, spells_then, Front, Begins}

-- ---- what holds of each answer

pub record Gives {A : Type 0} (o : Option A) (P : A → Type 0) : Type 0 where
  pub at : (a : A) → o ≡ Some a → P a

pub gives_some : {A : Type 0} {P : A → Type 0} (a : A) → P a → Gives (Some a) P
gives_some {A} {P} a p = record { at = λ b e. same_answer P a b e p }

pub gives_none : {A : Type 0} {P : A → Type 0} → Gives None P
gives_none {A} {P} = record { at = λ a e. absurd (none-some a e) }

pub gives_then : {A B : Type 0} {P : A → Type 0} {Q : B → Type 0} {o : Option A} {f : A → Option B} → Gives o P →
    ((a : A) → P a → Gives (f a) Q) → Gives (then o f) Q
gives_then {A} {B} {P} {Q} {o} {f} h k = record { at = λ b e. then_by o f b (Q b) e (λ a i j. (k a (h.at a i)).at b j) }

pub gives_provided : {A : Type 0} {P : A → Type 0} {o : Option A} (b : Bool) → (b ≡ true → Gives o P) → Gives (provided b o) P
gives_provided true h = h refl
gives_provided false h = gives_none

pub gives_cond : {A : Type 0} {P : A → Type 0} {x y : Option A} (b : Bool) → (b ≡ true → Gives x P) → (b ≡ false → Gives y P) →
    Gives (cond b x y) P
gives_cond true h k = h refl
gives_cond false h k = k refl

pub gives_whole : {A : Type 0} {P : A × Trees → Type 0} {o : Answer A} → Gives o P → Gives (whole o) (λ a. P (a, no_trees))
gives_whole {A} {P} {o} h = record { at = λ a e. h.at (a, no_trees) (whole_some o a e) }

pub gives_as : {A : Type 0} {P Q : A → Type 0} {o : Option A} → ((a : A) → P a → Q a) → Gives o P → Gives o Q
gives_as {A} {P} {Q} {o} k h = record { at = λ a e. k a (h.at a e) }

pub gives_both : {A : Type 0} {P Q : A → Type 0} {o : Option A} → Gives o P → Gives o Q → Gives o (λ a. P a × Q a)
gives_both {A} {P} {Q} {o} h k = record { at = λ a e. (h.at a e, k.at a e) }

-- whatever the first step gives
pub gives_after : {A B : Type 0} {Q : B → Type 0} {f : A → Option B} (o : Option A) → ((a : A) → Gives (f a) Q) → Gives (then o f) Q
gives_after {A} {B} {Q} {f} o k = gives_then {P = λ a. Unit {0}} (record { at = λ a e. tt }) (λ a p. k a)

-- ---- tokens one behind the other

pub nothing : (ts : Trees) → IsBare ts → Front no_trees ts ts
nothing ts h = (refl, h)

pub behind : (a b : Trees) {ts us vs : Trees} → Front a ts us → Front b us vs → Front (join a b) ts vs
behind a b {ts} {us} {vs} f g = (spells_then a b ts us vs f.0 g.0, g.1)

-- some tokens, and then all that is left
pub ends_with : (a b : Trees) {ts us : Trees} → Front a ts us → us ≡ b → ts ≡ join a b
ends_with a b f e = f.0 ∙ ap (join a) e

-- what is left is without ranges too
pub kept : {F : Type 0} (own ts us : Trees) → IsBare ts → F × Spells own ts us → F × Front own ts us
kept own ts us h p = (p.0, (p.1, bare_rest own ts us h p.1))

-- ---- what a place demands

pub comma_seen : (ts : Trees) (n : Next) → Begins ts n → Gives (comma_after n) (λ us. Front k.comma ts us)
comma_seen ts (comma us) b = gives_some us b
comma_seen ts _ b = gives_none

pub semicolon_seen : (ts : Trees) (n : Next) → Begins ts n → Gives (semicolon_after n) (λ us. Front k.semicolon ts us)
semicolon_seen ts (semicolon us) b = gives_some us b
semicolon_seen ts _ b = gives_none

pub leads_seen : (ts : Trees) (n : Next) → Begins ts n → Gives (leads_after n) (λ us. Front (k.joint 61 62) ts us)
leads_seen ts (leads us) b = gives_some us b
leads_seen ts _ b = gives_none

pub assigns_seen : (ts : Trees) (n : Next) → Begins ts n → Gives (assigns_after n) (λ us. Front k.assigns ts us)
assigns_seen ts (assigns us) b = gives_some us b
assigns_seen ts _ b = gives_none

pub colon_seen : (ts : Trees) (n : Next) → Begins ts n → Gives (colon_after n) (λ us. Front k.colon ts us)
colon_seen ts (colon us) b = gives_some us b
colon_seen ts _ b = gives_none

pub plus_seen : (ts : Trees) (n : Next) → Begins ts n → Gives (plus_after n) (λ us. Front (k.punct 43) ts us)
plus_seen ts (plus us) b = gives_some us b
plus_seen ts _ b = gives_none

pub as_seen : (ts : Trees) (n : Next) → Begins ts n → Gives (as_after n) (λ us. Front (k.word (codes "as")) ts us)
as_seen ts (a_word k_as us) b = gives_some us b
as_seen ts _ b = gives_none

pub wild_seen : (ts : Trees) (n : Next) → Begins ts n → Gives (wild_after n) (λ us. Front (k.word (codes "_")) ts us)
wild_seen ts (a_word k_wild us) b = gives_some us b
wild_seen ts _ b = gives_none

pub int_seen : (ts : Trees) (n : Next) → Begins ts n → Gives (int_after n) (λ a. Front (syntax.literal a.0) ts a.1 × (is_int a.0.kind ≡ true))
int_seen ts (literal l us) b = gives_provided (is_int l.kind) (λ c. gives_some (l, us) (b.0, c))
int_seen ts _ b = gives_none

-- ---- what readers give

-- an expression, and what is left
abbrev pub AnExpr : LeafGrammar → Bool → Trees → ExprTree × Trees → Type 0
AnExpr g b ts a = IsExpr g b a.0 × Front (expr_trees a.0) ts a.1

-- an expression of a row
abbrev pub AnOperand : LeafGrammar → Level → Bool → Trees → ExprTree × Trees → Type 0
AnOperand g l b ts a = (IsExpr g b a.0 × Fits l a.0) × Front (expr_trees a.0) ts a.1

-- the other parts of a chain
abbrev pub AChain : LeafGrammar → Level → Bool → Trees → Trees → ExprTrees × Trees → Type 0
AChain g l b between ts a = Each g l b a.0 × Front (tail between a.0) ts a.1

abbrev pub SomePosts : LeafGrammar → Trees → Posts × Trees → Type 0
SomePosts g ts a = ArePosts g a.0 × Front (posts_trees a.0) ts a.1

module _ (g : LeafGrammar) (r : Readers) (S : Sound g r) where
  pub reads_expr : (b : Bool) (ts : Trees) → IsBare ts → Gives (r.expr b ts) (AnExpr g b ts)
  reads_expr b ts h = record { at = λ a e. kept (expr_trees a.0) ts a.1 h (S.expr b ts a.1 a.0 h e) }

  pub reads_pre : (b : Bool) (ts : Trees) → IsBare ts → Gives (r.pre b ts) (AnOperand g at_pre b ts)
  reads_pre b ts h = record { at = λ a e. kept (expr_trees a.0) ts a.1 h (S.pre b ts a.1 a.0 h e) }

  pub reads_ors : (b : Bool) (ts : Trees) → IsBare ts → Gives (r.ors b ts) (AChain g at_and b (k.joint 124 124) ts)
  reads_ors b ts h = record { at = λ a e. kept (tail (k.joint 124 124) a.0) ts a.1 h (S.ors b ts a.1 a.0 h e) }

  pub reads_ands : (b : Bool) (ts : Trees) → IsBare ts → Gives (r.ands b ts) (AChain g at_cmp b (k.joint 38 38) ts)
  reads_ands b ts h = record { at = λ a e. kept (tail (k.joint 38 38) a.0) ts a.1 h (S.ands b ts a.1 a.0 h e) }

  pub reads_args : (ts : Trees) → IsBare ts → Gives (r.args ts) (λ a. Each g at_or true a.0 × (ts ≡ args_tail a.0 a.1))
  reads_args ts h = record { at = λ a e. S.args ts a.0 a.1 h e }

  pub reads_named : (ts : Trees) → IsBare ts → Gives (r.named_exprs ts) (λ es. EachNamed g es × (ts ≡ ended (each_named_expr es)))
  reads_named ts h = record { at = λ es e. S.named_exprs ts es h e }

  pub reads_arms : (ts : Trees) → IsBare ts → Gives (r.arms ts) (λ x. AreArms g x × (ts ≡ arms_trees x))
  reads_arms ts h = record { at = λ x e. S.arms ts x h e }

  pub reads_block : (ts : Trees) → IsBare ts → Gives (r.block ts) (λ d. IsBlock g d × (ts ≡ inside_trees d))
  reads_block ts h = record { at = λ d e. S.block ts d h e }

  pub reads_posts : (ts : Trees) → IsBare ts → Gives (r.posts ts) (SomePosts g ts)
  reads_posts ts h = record { at = λ a e. kept (posts_trees a.0) ts a.1 h (S.posts ts a.1 a.0 h e) }
