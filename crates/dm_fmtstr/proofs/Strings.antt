-- Format strings: what was read of one, and that no text has two readings.
use Rattle.std.specs.Prelude.{◌≡◌, ℕ, suc, ◌<◌, Bool, true, false, ◌||◌, nat_eq, cond, None, Some, List, [], ◌∷◌, ◌++◌, length, refl}
use Rattle.std.proofs.Common.{ap, ◌∙◌, sym, subst, arith, eqb-true, append_assoc, append-nil}
use Rattle.unicode_ident.specs.Ident.{is_xid_start}
use Rattle.unicode_ident.proofs.IdentLemmas.{is_xid_start-ascii}
use Rattle.dm_lexer.specs.Characters.{open_brace, close_brace}
use Rattle.dm_fmtstr.specs.Fronts.{behind}
use Rattle.std.proofs.lemmas.List.{map_push}
use Rattle.dm_fmtstr.specs.declared.format.Format.{Format as FormatValue}
use Rattle.dm_fmtstr.specs.Parts.{Format, format_of, formats_of}
use Rattle.dm_fmtstr.specs.Grammar.{and_then, inside_at, format_at, is_brace, Formats, ends, text, opening, closing, placeholder, HasNoFormats, behind_text}
use Rattle.dm_lexer.proofs.TextFronts.{cond_false}

-- ---- what begins a text

-- how a text can begin that begins no placeholder
pub data Passed (cs rest : List ℕ) : Type 0 where
  other : (c : ℕ) → is_brace c ≡ false → cs ≡ c ∷ rest → Passed cs rest
  double_open : cs ≡ open_brace ∷ open_brace ∷ rest → Passed cs rest
  double_close : cs ≡ close_brace ∷ close_brace ∷ rest → Passed cs rest

-- a character behind which another stands
data Next (c : ℕ) (cs rest : List ℕ) : Type 0 where
  next_is : cs ≡ c ∷ rest → Next c cs rest

next-if : (b : Bool) (c d : ℕ) (cs rest : List ℕ) → nat_eq d c ≡ b → cond b (Some cs) None ≡ Some rest → Next c (d ∷ cs) rest
next-if true c d cs rest e h =
    let same : d ≡ c = eqb-true d c e in
    let l : cs ≡ rest = cc in
    next_is (ap (λ x. x ∷ cs) same ∙ ap (λ x. c ∷ x) l)
next-if false c d cs rest e h = absurd (cc)

next-from : (c : ℕ) (cs rest : List ℕ) → behind c cs ≡ Some rest → Next c cs rest
next-from c [] rest h = absurd (cc)
next-from c (d ∷ cs) rest h = next-if (nat_eq d c) c d cs rest refl h

braces : (b d : Bool) (c : ℕ) (cs rest : List ℕ) → nat_eq c open_brace ≡ b → nat_eq c close_brace ≡ d → (b || d) ≡ true → Next c cs rest → Passed (c ∷ cs) rest
braces true d c cs rest o k h (next_is e) =
    let same : c ≡ open_brace = eqb-true c open_brace o in
    double_open (ap (λ l. c ∷ l) e ∙ ap (λ x. x ∷ x ∷ rest) same)
braces false true c cs rest o k h (next_is e) =
    let same : c ≡ close_brace = eqb-true c close_brace k in
    double_close (ap (λ l. c ∷ l) e ∙ ap (λ x. x ∷ x ∷ rest) same)
braces false false c cs rest o k h n = absurd (cc)

passed-if : (b : Bool) (c : ℕ) (cs rest : List ℕ) → is_brace c ≡ b → cond b (behind c cs) (Some cs) ≡ Some rest → Passed (c ∷ cs) rest
passed-if true c cs rest e h = braces (nat_eq c open_brace) (nat_eq c close_brace) c cs rest refl refl e (next-from c cs rest h)
passed-if false c cs rest e h =
    let l : cs ≡ rest = cc in
    other c e (ap (λ x. c ∷ x) l)

pub passed-from : (cs rest : List ℕ) → behind_text cs ≡ Some rest → Passed cs rest
passed-from [] rest h = absurd (cc)
passed-from (c ∷ cs) rest h = passed-if (is_brace c) c cs rest refl h

-- a text that begins a placeholder begins with `{`
data Opened (cs : List ℕ) (r : List ℕ × Format) : Type 0 where
  opened_is : (es : List ℕ) → cs ≡ open_brace ∷ es → inside_at es ≡ Some r → Opened cs r

opened-if : (b : Bool) (c : ℕ) (cs : List ℕ) (r : List ℕ × Format) → nat_eq c open_brace ≡ b → and_then (cond b (Some cs) None) inside_at ≡ Some r →
    Opened (c ∷ cs) r
opened-if true c cs r e h = opened_is cs (ap (λ x. x ∷ cs) (eqb-true c open_brace e)) h
opened-if false c cs r e h = absurd (cc)

opened-from : (cs : List ℕ) (r : List ℕ × Format) → format_at cs ≡ Some r → Opened cs r
opened-from [] r h = absurd (cc)
opened-from (c ∷ cs) r h = opened-if (nat_eq c open_brace) c cs r refl h

-- no placeholder begins with `{{`
inside-none : (es : List ℕ) → inside_at (open_brace ∷ es) ≡ None
inside-none es =
    let e : is_xid_start 123 ≡ false = is_xid_start-ascii 123 (omega arith) in
    rw e refl

not-double : (cs es : List ℕ) (r : List ℕ × Format) → cs ≡ open_brace ∷ es → inside_at cs ≡ Some r → ⊥
not-double cs es r e h =
    let n : inside_at cs ≡ None = ap inside_at e ∙ inside-none es in
    absurd (cc)

no-brace : (c d : ℕ) → c ≡ d → is_brace c ≡ false → is_brace d ≡ true → ⊥
no-brace c d e b t =
    let f : false ≡ true = sym b ∙ ap is_brace e ∙ t in
    absurd (cc)

head-same : (c d : ℕ) (cs ds : List ℕ) → c ∷ cs ≡ d ∷ ds → c ≡ d
head-same c d cs ds e = cc

braces-differ : (cs ds : List ℕ) → open_brace ∷ cs ≡ close_brace ∷ ds → ⊥
braces-differ cs ds e =
    let k : ◌≡◌ {A = ℕ} 123 125 = head-same open_brace close_brace cs ds e in
    absurd (omega arith)

-- ---- one part of a reading

pub passed-formats : (cs rest : List ℕ) (gs : List Format) → Passed cs rest → Formats rest gs → Formats cs gs
passed-formats cs rest gs (other c b e) t =
    let P : List ℕ → Type 0 = λ l. Formats l gs in
    subst P (sym e) (text c b t)
passed-formats cs rest gs (double_open e) t =
    let P : List ℕ → Type 0 = λ l. Formats l gs in
    subst P (sym e) (opening t)
passed-formats cs rest gs (double_close e) t =
    let P : List ℕ → Type 0 = λ l. Formats l gs in
    subst P (sym e) (closing t)

moved : (ds rest : List ℕ) (gs : List Format) → ds ≡ rest → Formats ds gs → Formats rest gs
moved ds rest gs e t =
    let P : List ℕ → Type 0 = λ l. Formats l gs in
    subst P e t

pub formats-passed : {cs : List ℕ} {gs : List Format} (rest : List ℕ) → Formats cs gs → Passed cs rest → Formats rest gs
formats-passed rest ends (other c b e) = absurd (cc)
formats-passed rest ends (double_open e) = absurd (cc)
formats-passed rest ends (double_close e) = absurd (cc)
formats-passed rest (text {cs = ds} {fs = gs} d n t) (other c b e) = moved ds rest gs (cc) t
formats-passed rest (text d n t) (double_open e) = absurd (no-brace d open_brace (cc) n refl)
formats-passed rest (text d n t) (double_close e) = absurd (no-brace d close_brace (cc) n refl)
formats-passed rest (opening t) (other c b e) = absurd (no-brace c open_brace (cc) b refl)
formats-passed rest (opening {cs = ds} {fs = gs} t) (double_open e) = moved ds rest gs (cc) t
formats-passed rest (opening t) (double_close e) = absurd (braces-differ _ _ e)
formats-passed rest (closing t) (other c b e) = absurd (no-brace c close_brace (cc) b refl)
formats-passed rest (closing t) (double_open e) = absurd (braces-differ _ _ (sym e))
formats-passed rest (closing {cs = ds} {fs = gs} t) (double_close e) = moved ds rest gs (cc) t
formats-passed rest (placeholder {cs = ds} {rest = more} {f = f} h t) (other c b e) =
    elim (opened-from ds (more, f) h) [ opened_is es o i ↦ absurd (no-brace c open_brace (cc) b refl) ]
formats-passed rest (placeholder {cs = ds} {rest = more} {f = f} h t) (double_open e) =
    elim (opened-from ds (more, f) h) [ opened_is es o i ↦ absurd (not-double es rest (more, f) (cc) i) ]
formats-passed rest (placeholder {cs = ds} {rest = more} {f = f} h t) (double_close e) =
    elim (opened-from ds (more, f) h) [ opened_is es o i ↦ absurd (braces-differ _ _ (sym o ∙ e)) ]

-- a list of placeholders that begins with this one
pub data Placed (f : Format) (rest : List ℕ) (gs : List Format) : Type 0 where
  placed_is : (hs : List Format) → gs ≡ f ∷ hs → Formats rest hs → Placed f rest gs

same-placed : (rest more : List ℕ) (f g : Format) (gs : List Format) → ◌≡◌ {A = List ℕ × Format} (more, g) (rest, f) → Formats more gs → Placed f rest (g ∷ gs)
same-placed rest more f g gs e t = placed_is gs (ap (λ r. r.1 ∷ gs) e) (moved more rest gs (ap (λ r. r.0) e) t)

pub formats-placed : {cs : List ℕ} {gs : List Format} (f : Format) (rest : List ℕ) → Formats cs gs → format_at cs ≡ Some (rest, f) → Placed f rest gs
formats-placed f rest ends h = absurd (cc)
formats-placed f rest (text {cs = ds} d n t) h =
    elim (opened-from (d ∷ ds) (rest, f) h) [ opened_is es o i ↦ absurd (no-brace d open_brace (cc) n refl) ]
formats-placed f rest (opening {cs = ds} t) h =
    elim (opened-from (open_brace ∷ open_brace ∷ ds) (rest, f) h) [ opened_is es o i ↦ absurd (not-double es ds (rest, f) (cc) i) ]
formats-placed f rest (closing {cs = ds} t) h =
    elim (opened-from (close_brace ∷ close_brace ∷ ds) (rest, f) h) [ opened_is es o i ↦ absurd (braces-differ _ _ (sym o)) ]
formats-placed f rest (placeholder {rest = more} {f = g} {fs = gs} k t) h = same-placed rest more f g gs (cc) t

pub formats-none : {cs : List ℕ} {gs : List Format} → Formats cs gs → 0 < length cs → behind_text cs ≡ None → format_at cs ≡ None → ⊥
formats-none ends some p h = absurd (omega arith)
formats-none (text {cs = ds} d n t) some p h =
    let e : behind_text (d ∷ ds) ≡ Some ds = cond_false _ _ _ n in
    absurd (cc)
formats-none (opening t) some p h = absurd (cc)
formats-none (closing t) some p h = absurd (cc)
formats-none (placeholder k t) some p h = absurd (cc)

formats-end : {cs : List ℕ} {gs : List Format} → Formats cs gs → cs ≡ [] → gs ≡ []
formats-end ends e = refl
formats-end (text d n t) e = absurd (cc)
formats-end (opening t) e = absurd (cc)
formats-end (closing t) e = absurd (cc)
formats-end (placeholder {cs = ds} {rest = more} {f = f} k t) e =
    let n : format_at ds ≡ None = ap format_at e in
    absurd (cc)

-- ---- whole readings

-- no text has two lists
pub formats-one : {cs : List ℕ} {fs : List Format} (gs : List Format) → Formats cs fs → Formats cs gs → fs ≡ gs
formats-one gs ends u = sym (formats-end u refl)
formats-one gs (text {cs = ds} c b t) u = formats-one gs t (formats-passed ds u (other c b refl))
formats-one gs (opening {cs = ds} t) u = formats-one gs t (formats-passed ds u (double_open refl))
formats-one gs (closing {cs = ds} t) u = formats-one gs t (formats-passed ds u (double_close refl))
formats-one gs (placeholder {rest = rest} {f = f} h t) u =
    elim (formats-placed f rest u h) [ placed_is hs e v ↦ ap (λ l. f ∷ l) (formats-one hs t v) ∙ sym e ]

-- these placeholders, and then those of the rest
pub data Behind (fs : List Format) (rest : List ℕ) (gs : List Format) : Type 0 where
  behind_is : (hs : List Format) → gs ≡ fs ++ hs → Formats rest hs → Behind fs rest gs

-- the placeholders that were read of a text, of which the rest is left
pub record AreReadSoFar (cs rest : List ℕ) (fs : List Format) : Type 0 where
  pub before : (gs : List Format) → Formats rest gs → Formats cs (fs ++ gs)
  pub only : (gs : List Format) → Formats cs gs → Behind fs rest gs

pub read-start : (cs : List ℕ) → AreReadSoFar cs cs []
read-start cs = record { before = λ gs t. t; only = λ gs t. behind_is gs refl t }

pub read-text : (cs rest ds after : List ℕ) (c : ℕ) (fs : List Format) → AreReadSoFar cs rest fs → rest ≡ c ∷ ds → behind_text (c ∷ ds) ≡ Some after →
    AreReadSoFar cs after fs
read-text cs rest ds after c fs r k h =
    let p : Passed rest after = passed-from rest after (ap behind_text k ∙ h) in record {
      before = λ gs t. r.before gs (passed-formats rest after gs p t);
      only = λ gs t. elim (r.only gs t) [ behind_is hs e u ↦ behind_is hs e (formats-passed after u p) ];
    }

pub read-placeholder : (cs rest after : List ℕ) (f : Format) (fs : List Format) → AreReadSoFar cs rest fs → format_at rest ≡ Some (after, f) →
    AreReadSoFar cs after (fs ++ f ∷ [])
read-placeholder cs rest after f fs r h = record {
  before = λ gs t.
      let P : List Format → Type 0 = λ l. Formats cs l in
      subst P (sym (append_assoc fs (f ∷ []) gs)) (r.before (f ∷ gs) (placeholder h t));
  only = λ gs t.
      elim (r.only gs t) [
        | behind_is hs e u ↦
            elim (formats-placed f after u h) [ placed_is ks k v ↦ behind_is ks (e ∙ ap (λ l. fs ++ l) k ∙ sym (append_assoc fs (f ∷ []) ks)) v ]
      ];
}

-- the same of the program's values
pub values-placeholder : (cs rest after : List ℕ) (f : FormatValue) (fs gs : List FormatValue) → AreReadSoFar cs rest (formats_of fs) →
    format_at rest ≡ Some (after, format_of f) → gs ≡ fs ++ f ∷ [] → AreReadSoFar cs after (formats_of gs)
values-placeholder cs rest after f fs gs r h e =
    let P : List Format → Type 0 = λ l. AreReadSoFar cs after l in
    let m : formats_of fs ++ format_of f ∷ [] ≡ formats_of gs = sym (map_push format_of fs f) ∙ ap formats_of (sym e) in
    subst P m (read-placeholder cs rest after (format_of f) (formats_of fs) r h)

pub values-start : (cs : List ℕ) (fs : List FormatValue) → fs ≡ [] → AreReadSoFar cs cs (formats_of fs)
values-start cs fs e =
    let P : List FormatValue → Type 0 = λ l. AreReadSoFar cs cs (formats_of l) in
    subst P (sym e) (read-start cs)

pub read-none : (cs rest ds : List ℕ) (c : ℕ) (fs : List Format) → AreReadSoFar cs rest fs → rest ≡ c ∷ ds → behind_text (c ∷ ds) ≡ None → format_at rest ≡ None →
    HasNoFormats cs
read-none cs rest ds c fs r k p h =
    let l : length rest ≡ suc (length ds) = ap length k in
    λ gs t. elim (r.only gs t) [ behind_is hs e u ↦ formats-none u (omega arith) (ap behind_text k ∙ p) h ]

pub read-end : (cs rest : List ℕ) (fs : List Format) → AreReadSoFar cs rest fs → rest ≡ [] → Formats cs fs
read-end cs rest fs r e =
    let P : List ℕ → Type 0 = λ l. Formats l [] in
    let Q : List Format → Type 0 = λ l. Formats cs l in
    subst Q (append-nil fs) (r.before [] (subst P (sym e) ends))
