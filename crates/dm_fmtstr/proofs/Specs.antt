-- Parts that may be absent, one behind the other.
use Rattle.std.specs.Prelude.{◌≡◌, ℕ, Option, None, Some, MatchOption, List, refl}
use Rattle.std.proofs.Common.{ap, ◌∙◌, sym, Bor}
use Rattle.std.specs.Option.{option_map}
use Rattle.std.specs.Str.{chars}
use Rattle.dm_fmtstr.specs.Parts.{Count, Precision}
use Rattle.dm_fmtstr.specs.Grammar.{Read, optional, as_a, align_at, sign_at, alternate_at, padding_at, count_at, precision_at, kind_at, spec_with, spec_at}
use Rattle.dm_fmtstr.specs.declared.spec.Align.{Align}
use Rattle.dm_fmtstr.specs.declared.spec.Sign.{Sign}
use Rattle.dm_fmtstr.specs.declared.spec.Alternate.{Alternate}
use Rattle.dm_fmtstr.specs.declared.spec.ZeroPadding.{ZeroPadding}
use Rattle.dm_fmtstr.specs.declared.kind.FmtType.{FmtType}

abbrev Text : Type 0
Text = Bor (List ℕ)

-- what the program gives for a part that may be absent, of a value that stands for `view` of it
pub part-read : {A B : Type 0} (view : A → B) (text rest : List ℕ) (read : Option (Text × A)) (found : Option A) (at : Read B) →
    MatchOption read (at ≡ None) (λ r. at ≡ Some (chars r.0.now, view r.1)) →
    MatchOption read ((rest ≡ text) × (found ≡ None)) (λ r. (rest ≡ r.0.now) × (found ≡ Some r.1)) →
    optional (chars text) at ≡ (chars rest, option_map view found)
part-read view text rest None found at h o =
    ap (optional (chars text)) h ∙ ap (λ l. (chars l, None)) (sym o.0) ∙ ap (λ f. (chars rest, option_map view f)) (sym o.1)
part-read view text rest (Some r) found at h o =
    ap (optional (chars text)) h ∙ ap (λ l. (chars l, Some (view r.1))) (sym o.0) ∙ ap (λ f. (chars rest, option_map view f)) (sym o.1)

pub plain-read : {A : Type 0} (text rest : List ℕ) (read : Option (Text × A)) (found : Option A) (at : Read A) →
    MatchOption read (at ≡ None) (λ r. at ≡ Some (chars r.0.now, r.1)) →
    MatchOption read ((rest ≡ text) × (found ≡ None)) (λ r. (rest ≡ r.0.now) × (found ≡ Some r.1)) →
    optional (chars text) at ≡ (chars rest, found)
plain-read text rest None found at h o =
    ap (optional (chars text)) h ∙ ap (λ l. (chars l, None)) (sym o.0) ∙ ap (λ f. (chars rest, f)) (sym o.1)
plain-read text rest (Some r) found at h o =
    ap (optional (chars text)) h ∙ ap (λ l. (chars l, Some r.1)) (sym o.0) ∙ ap (λ f. (chars rest, f)) (sym o.1)

-- the parts of a spec, one behind the other
pub record AreParts (cs cs6 : List ℕ) (align : Option (Option ℕ × Align)) (sign : Option Sign) (alternate : Option Alternate) (padding : Option ZeroPadding)
    (width : Option Count) (precision : Option Precision) : Type 0 where
  pub cs1 : List ℕ
  pub align_is : optional cs (align_at cs) ≡ (cs1, align)
  pub cs2 : List ℕ
  pub sign_is : optional cs1 (sign_at cs1) ≡ (cs2, sign)
  pub cs3 : List ℕ
  pub alternate_is : optional cs2 (alternate_at cs2) ≡ (cs3, alternate)
  pub cs4 : List ℕ
  pub padding_is : optional cs3 (padding_at cs3) ≡ (cs4, padding)
  pub cs5 : List ℕ
  pub width_is : optional cs4 (count_at cs4) ≡ (cs5, width)
  pub precision_is : optional cs5 (precision_at cs5) ≡ (cs6, precision)

pub parts-are : {cs cs1 cs2 cs3 cs4 cs5 cs6 : List ℕ} {align : Option (Option ℕ × Align)} {sign : Option Sign} {alternate : Option Alternate}
    {padding : Option ZeroPadding} {width : Option Count} {precision : Option Precision} →
    optional cs (align_at cs) ≡ (cs1, align) → optional cs1 (sign_at cs1) ≡ (cs2, sign) → optional cs2 (alternate_at cs2) ≡ (cs3, alternate) →
    optional cs3 (padding_at cs3) ≡ (cs4, padding) → optional cs4 (count_at cs4) ≡ (cs5, width) → optional cs5 (precision_at cs5) ≡ (cs6, precision) →
    AreParts cs cs6 align sign alternate padding width precision
parts-are a s t p w q =
    record { cs1 = _; align_is = a; cs2 = _; sign_is = s; cs3 = _; alternate_is = t; cs4 = _; padding_is = p; cs5 = _; width_is = w; precision_is = q }

spec-parts : (cs cs6 : List ℕ) (align : Option (Option ℕ × Align)) (sign : Option Sign) (alternate : Option Alternate) (padding : Option ZeroPadding)
    (width : Option Count) (precision : Option Precision) → AreParts cs cs6 align sign alternate padding width precision →
    spec_at cs ≡ as_a (spec_with align sign alternate padding width precision) (kind_at cs6)
spec-parts cs cs6 align sign alternate padding width precision p =
    rw (p.align_is, p.sign_is, p.alternate_is, p.padding_is, p.width_is, p.precision_is) refl

pub spec-none : (cs cs6 : List ℕ) (align : Option (Option ℕ × Align)) (sign : Option Sign) (alternate : Option Alternate) (padding : Option ZeroPadding)
    (width : Option Count) (precision : Option Precision) → AreParts cs cs6 align sign alternate padding width precision → kind_at cs6 ≡ None → spec_at cs ≡ None
spec-none cs cs6 align sign alternate padding width precision p h = spec-parts cs cs6 align sign alternate padding width precision p ∙ ap (as_a _) h

pub spec-read : (cs cs6 rest : List ℕ) (align : Option (Option ℕ × Align)) (sign : Option Sign) (alternate : Option Alternate) (padding : Option ZeroPadding)
    (width : Option Count) (precision : Option Precision) (ty : FmtType) → AreParts cs cs6 align sign alternate padding width precision →
    kind_at cs6 ≡ Some (rest, ty) →
    spec_at cs ≡ Some (rest, spec_with align sign alternate padding width precision ty)
spec-read cs cs6 rest align sign alternate padding width precision ty p h =
    spec-parts cs cs6 align sign alternate padding width precision p ∙ ap (as_a _) h
