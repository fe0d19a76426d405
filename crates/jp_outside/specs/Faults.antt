-- When a device may answer that it failed.
use Rattle.std.specs.Prelude.{◌≡◌, ◌⊎◌, ℕ, ◌-◌, ◌^◌, ◌<◌, ◌≤◌, Result, MatchResult, Ok, Err}
use Rattle.jp_outside.specs.declared.store.StoreErr.{StoreErr}
use Rattle.jp_outside.specs.declared.store.StoreErr.TheVariants.{Failed, OutOfMemory}

-- the count rose, or stands at the greatest number that it can count to
pub record Rose (before now : ℕ) : Type 0 where
  pub later : before ≤ now
  pub cause : (before < now) ⊎ (2 ^ 64 - 1 ≤ now)

-- a fault has its cause in the device, and every other answer leaves the count as it was
abbrev pub HasCause : {T E : Type 0} → ℕ → ℕ → Result T E → Type 0
HasCause before now result = MatchResult result (λ _. now ≡ before) (λ _. Rose before now)

-- the same for a store, whose want of memory is no fault
abbrev pub StoreCause : {T : Type 0} → ℕ → ℕ → Result T StoreErr → Type 0
StoreCause before now (Ok _) = now ≡ before
StoreCause before now (Err Failed) = Rose before now
StoreCause before now (Err OutOfMemory) = now ≡ before
