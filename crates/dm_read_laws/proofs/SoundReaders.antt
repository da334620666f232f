-- The readers with any fuel read what is in the grammar, and just the tokens that they pass: the induction over fuel.
use Rattle.std.specs.Prelude.{ℕ, zero, suc}
use Rattle.dm_reread.specs.Leaves.{LeafGrammar, Leaves}
use Rattle.dm_reread.specs.Reading.{Readers, readers, refuses, step}
use Rattle.dm_read_laws.specs.Sound.{SoundLeaves}
use Rattle.dm_read_laws.proofs.SoundRows.{Sound}
use Rattle.dm_read_laws.proofs.SoundFronts.{gives_none}
use Rattle.dm_read_laws.proofs.SoundPaths.{segments_row}
use Rattle.dm_read_laws.proofs.SoundFormats.{fmt_args_row}
use Rattle.dm_read_laws.proofs.SoundPatterns.{pattern_row, bars_row, patterns_row, named_patterns_row}
use Rattle.dm_read_laws.proofs.SoundArguments.{sound_args, sound_named_exprs}
use Rattle.dm_read_laws.proofs.SoundPosts.{sound_posts}
use Rattle.dm_read_laws.proofs.SoundOperators.{GoesOn, goes_further, sound_expr, sound_pre, sound_ors, sound_ands}
use Rattle.dm_read_laws.proofs.SoundBlocks.{sound_block}
use Rattle.dm_read_laws.proofs.SoundArms.{sound_arms}

none_sound : (g : LeafGrammar) (l : Leaves) → SoundLeaves g l → Sound g (refuses l)
none_sound g l L = record {
  leaf = L;
  expr = λ b ts us e h q. absurd (cc);
  pre = λ b ts us e h q. absurd (cc);
  ors = λ b ts us es h q. absurd (cc);
  ands = λ b ts us es h q. absurd (cc);
  args = λ ts es last h q. absurd (cc);
  segments = λ ts us ss h q. absurd (cc);
  posts = λ ts us ps h q. absurd (cc);
  fmt_args = λ ts as' h q. absurd (cc);
  named_exprs = λ ts es h q. absurd (cc);
  arms = λ ts as' h q. absurd (cc);
  block = λ ts d h q. absurd (cc);
  pattern = λ ts us p h q. absurd (cc);
  bars = λ ts us ps h q. absurd (cc);
  patterns = λ ts ps h q. absurd (cc);
  named_patterns = λ ts ps more h q. absurd (cc);
}

none_goes_on : (l : Leaves) → GoesOn (refuses l)
none_goes_on l = record {
  ors = λ b ts h. gives_none;
  ands = λ b ts h. gives_none;
  posts = λ ts h. gives_none;
  pre = λ b ts inside us e h. gives_none;
}

step_sound : (g : LeafGrammar) (r : Readers) → Sound g r → GoesOn r → Sound g (step r)
step_sound g r S O = record {
  leaf = S.leaf;
  expr = sound_expr g r S O;
  pre = sound_pre g r S O;
  ors = sound_ors g r S O;
  ands = sound_ands g r S O;
  args = sound_args g r S;
  segments = segments_row g r S;
  posts = sound_posts g r S;
  fmt_args = fmt_args_row g r S;
  named_exprs = sound_named_exprs g r S;
  arms = sound_arms g r S;
  block = sound_block g r S;
  pattern = pattern_row g r S;
  bars = bars_row g r S;
  patterns = patterns_row g r S;
  named_patterns = named_patterns_row g r S;
}

-- readers go on where something stands behind, whatever leaves read
pub readers_go_on : (l : Leaves) (n : ℕ) → GoesOn (readers l n)
unfolding readers
readers_go_on l zero = none_goes_on l
readers_go_on l (suc n) = goes_further (readers l n) (readers_go_on l n)

pub readers_sound : (g : LeafGrammar) (l : Leaves) → SoundLeaves g l → (n : ℕ) → Sound g (readers l n)
unfolding readers
readers_sound g l L zero = none_sound g l L
readers_sound g l L (suc n) = step_sound g (readers l n) (readers_sound g l L n) (readers_go_on l n)
