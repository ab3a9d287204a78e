-- One of two sides is kept, where what it says is kept.
use Rattle.std.proofs.Common.{◌⊎◌, inl, inr}

pub says_on : {A B C : Type 0} → A ⊎ B → (A → C) → C ⊎ B
says_on (inl a) f = inl (f a)
says_on (inr b) f = inr b
