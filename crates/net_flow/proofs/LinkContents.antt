-- The messages of a link, by the counts at its two ends.
use Rattle.std.proofs.Common.{◌≡◌, ◌<◌, ◌≤◌, ◌+◌, ◌-◌, ◌*◌, ℕ, zero, suc, Bool, true, false, nat_lt, refl, sym, ap, ◌∙◌, arith, List, [], ◌∷◌, ◌++◌, length, if◌then◌else◌}
use Rattle.std.proofs.lemmas.Bool.Decides.{nat_tests}
use Rattle.net_flow.specs.Net.{Message, Packet, End}
use Rattle.net_flow.specs.Sound.{messages, message}

module _ (P : Type 0) where
  pub count : (f : ℕ → Message P) (at n : ℕ) → length (messages f at n) ≡ n
  count f at zero = refl
  count f at (suc n) = ap suc (count f (at + 1) n)

  pub same : (f g : ℕ → Message P) (at n : ℕ) → ((i : ℕ) → at ≤ i → i < at + n → f i ≡ g i) → messages f at n ≡ messages g at n
  same f g at zero h = refl
  same f g at (suc n) h =
      let rest = same f g (at + 1) n (λ i low high. h i (omega (arith, low)) (omega (arith, high))) in
      ap (λ (m : Message P). m ∷ messages f (at + 1) n) (h at (omega arith) (omega arith)) ∙ ap (λ (ms : List (Message P)). g at ∷ ms) rest

  pub one_more : (f : ℕ → Message P) (at n : ℕ) → messages f at (n + 1) ≡ messages f at n ++ f (at + n) ∷ []
  one_more f at zero = let e : at ≡ at + 0 = omega arith in ap (λ (i : ℕ). f i ∷ []) e
  one_more f at (suc n) =
      let h = one_more f (at + 1) n in
      let e : suc n + 1 ≡ suc (n + 1) = omega arith in
      let i : at + 1 + n ≡ at + suc n = omega arith in
      ap (messages f at) e ∙ ap (λ (ms : List (Message P)). f at ∷ ms) (h ∙ ap (λ (k : ℕ). messages f (at + 1) n ++ f k ∷ []) i)

  module _ (carried : ℕ → P) (W l : ℕ) where
    abbrev pub held : ℕ → ℕ → ℕ → List (Message P)
    held packets sent received = messages (message carried W l packets) received (sent - received)

    pub packet_at : (packets i : ℕ) → i < packets → message carried W l packets i ≡ Packet (l + i * W) (carried (l + i * W))
    packet_at packets i below =
        let e : nat_lt i packets ≡ true = grind (arith, nat_tests) in ap (λ (b : Bool). if b then Packet (l + i * W) (carried (l + i * W)) else End) e

    pub end_at : (packets i : ℕ) → packets ≤ i → message carried W l packets i ≡ End
    end_at packets i most =
        let e : nat_lt i packets ≡ false = grind (arith, nat_tests) in ap (λ (b : Bool). if b then Packet (l + i * W) (carried (l + i * W)) else End) e

    -- the first message is received
    pub front_received : (packets sent received : ℕ) → received < sent → held packets sent received ≡ message carried W l packets received ∷ held packets sent (received + 1)
    front_received packets sent received less =
        let e : sent - received ≡ suc (sent - (received + 1)) = omega (arith, less) in ap (messages (message carried W l packets) received) e

    -- a packet or an End is sent
    pub packet_sent : (packets sent received : ℕ) → received ≤ sent → sent ≡ packets
        → held (packets + 1) (packets + 1) received ≡ held packets sent received ++ Packet (l + packets * W) (carried (l + packets * W)) ∷ []
    packet_sent packets sent received within all =
        let n = sent - received in
        let more : packets + 1 - received ≡ n + 1 = omega (arith, within, all) in
        let alike = same (message carried W l (packets + 1)) (message carried W l packets) received n
        (λ i low high. packet_at (packets + 1) i (omega (arith, high, within, all)) ∙ sym (packet_at packets i (omega (arith, high, within, all)))) in
        let last : message carried W l (packets + 1) (received + n) ≡ Packet (l + packets * W) (carried (l + packets * W)) =
        let at : received + n ≡ packets = omega (arith, within, all) in
        ap (message carried W l (packets + 1)) at ∙ packet_at (packets + 1) packets (omega arith) in
        ap (messages (message carried W l (packets + 1)) received) more ∙ one_more (message carried W l (packets + 1)) received n
        ∙ ap (λ (ms : List (Message P)). ms ++ message carried W l (packets + 1) (received + n) ∷ []) alike
        ∙ ap (λ (x : Message P). messages (message carried W l packets) received n ++ x ∷ []) last

    pub end_sent : (packets sent received : ℕ) → received ≤ sent → sent ≡ packets → held packets (sent + 1) received ≡ held packets sent received ++ End ∷ []
    end_sent packets sent received within all =
        let n = sent - received in
        let more : sent + 1 - received ≡ n + 1 = omega (arith, within) in
        let last : message carried W l packets (received + n) ≡ End = end_at packets (received + n) (omega (arith, within, all)) in
        ap (messages (message carried W l packets) received) more ∙ one_more (message carried W l packets) received n
        ∙ ap (λ (x : Message P). messages (message carried W l packets) received n ++ x ∷ []) last
