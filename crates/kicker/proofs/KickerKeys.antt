-- The keys of the order of kickers: who has one qualifies, and the lower key is that of the nearer player. So the least key tells the kicker. Assumes nothing.
use mathlib.Core.Path.{◌≡◌, refl, sym, ap, subst, ◌∙◌}
use mathlib.Core.Bool.{Bool, true, true≢false, ◌&&◌, cond}
use mathlib.Core.List.{List}
use mathlib.Core.Logic.{⊎_elim}
use Prim.Native.Nat.{ℕ, ◌+◌, ◌*◌, ◌%◌, ◌≤◌, ◌<◌}
use native.Mathlib.Omega.{arith}
use lib.Dec.{ltb, eqb}
use lib.Ieee.{Float}
use borrow.Author.Tests.{ltb-true, lt-ltb, le-ltb}
use Rattle.game.specs.declared.FieldDimensions.{FieldDimensions}
use Rattle.game.specs.declared.SetPlay.{SetPlay}
use Rattle.game.specs.declared.Team.{Team}
use Rattle.lists.specs.Ranking.{rank, ranked}
use Rattle.keys.specs.Keys.{no_key, Least, has_key, lower_key, TellsNumber}
use Rattle.kicker.specs.Kicker.{qualifies, distance_at, comes_before, nearest, kicker_number}
use Rattle.kicker.specs.KickerKeys.{order_of, Small, distance_key, kicker_key}
use Rattle.lists.proofs.Counting.{first_none}
use Rattle.lists.proofs.Ranking.{lexical, ranked_same}
use Rattle.lists.proofs.Bools.{by_test}
use Rattle.keys.proofs.LeastKey.{next_ranked, differ, below_zero, some_key}
use Rattle.std.specs.Prelude.{Option, None, Some}
use Rattle.game.specs.declared.Margins.{Margins}

-- ---- the key of a distance
-- it is one where the player qualifies
key_has : (d : Option Float) (i : ℕ) → i < 20 → Small d → ltb (distance_key d i) no_key ≡ qualifies d
key_has None i l h = le-ltb no_key no_key (omega arith)
key_has (Some d) i l h = lt-ltb (distance_key (Some d) i) no_key (omega (arith, h refl))

-- it tells the number
key_tells : (d : Option Float) (i : ℕ) → i < 20 → distance_key d i < no_key → distance_key d i % 32 ≡ i + 1
key_tells None i l h = absurd (omega arith)
key_tells (Some d) i l h = omega arith

-- the lower one is that of the nearer player, else of the lower number
key_order : (d e : Option Float) (i j : ℕ) → i < 20 → j < 20 → qualifies d ≡ true → qualifies e ≡ true → ltb (distance_key d i) (distance_key e j) ≡ comes_before d e i j
key_order None e i j l m s t = absurd (true≢false (sym s))
key_order (Some d) None i j l m s t = absurd (true≢false (sym t))
key_order (Some d) (Some e) i j l m s t =
    lexical (distance_key (Some d) i) (distance_key (Some e) j) (order_of (Some d)) (order_of (Some e)) i j (λ h. omega arith) (λ h. omega arith) (λ h k. omega arith) (λ h k. omega arith)

-- ---- the key of a player, as the code makes it
-- who may not kick has none
pub no_key_holds : (d : Option Float) (i : ℕ) → d ≡ None → (no_key ≡ distance_key d i) × Small d
no_key_holds d i e = (sym (ap (λ (x : Option Float). distance_key x i) e), λ (t : qualifies d ≡ true). absurd (true≢false (sym t ∙ ap qualifies e)))

-- and who may has that of its distance
pub its_key : (d : Option Float) (metres : Float) (x i : ℕ) → d ≡ Some metres → x ≡ order_of (Some metres) → x < 0x1_0000_0000 → (x * 32 + (i + 1) ≡ distance_key d i) × Small d
its_key d metres x i e o h = (
  ap (λ (y : ℕ). y * 32 + (i + 1)) o ∙ sym (ap (λ (y : Option Float). distance_key y i) e),
  λ t. subst (λ (y : Option Float). order_of y < 0x1_0000_0000) (sym e) (subst (λ (k : ℕ). k < 0x1_0000_0000) o h),
)

-- ---- the keys of a team
module _ (s : SetPlay) (field : FieldDimensions) (sign : Float) (team : Team) (margins : List (Option Margins))
    (small : (k : ℕ) → k < 20 → Small (distance_at s field sign team margins k))
  where
    has_key_holds : (i : ℕ) → i < 20 → has_key (kicker_key s field sign team margins) i ≡ qualifies (distance_at s field sign team margins i)
    unfolding kicker_key
    has_key_holds i l = key_has (distance_at s field sign team margins i) i l (small i l)

    tells_number : TellsNumber (λ key. key % 32) (kicker_key s field sign team margins)
    unfolding kicker_key
    tells_number i l h = key_tells (distance_at s field sign team margins i) i l h

    lower_key_holds : (i j : ℕ) → i < 20 → j < 20 → qualifies (distance_at s field sign team margins i) ≡ true → qualifies (distance_at s field sign team margins j) ≡ true
        → lower_key (kicker_key s field sign team margins) i j ≡ comes_before (distance_at s field sign team margins i) (distance_at s field sign team margins j) i j
    unfolding kicker_key
    lower_key_holds i j l m a b = key_order (distance_at s field sign team margins i) (distance_at s field sign team margins j) i j l m a b

    ranked_nearest : ranked 20 (has_key (kicker_key s field sign team margins)) (lower_key (kicker_key s field sign team margins)) 0 ≡ nearest s field sign team margins
    unfolding nearest
    ranked_nearest =
        ranked_same 20 (has_key (kicker_key s field sign team margins)) (λ i. qualifies (distance_at s field sign team margins i)) (lower_key (kicker_key s field sign team margins))
        (λ i j. comes_before (distance_at s field sign team margins i) (distance_at s field sign team margins j) i j) 0 has_key_holds
        (λ i j l m a b. lower_key_holds i j l m (sym (has_key_holds i l) ∙ a) (sym (has_key_holds j m) ∙ b))

    -- a least key that is one is the kicker's
    pub key_found : (r : ℕ) → Least 20 (kicker_key s field sign team margins) 0 r → r < no_key → Some (r % 32) ≡ kicker_number (nearest s field sign team margins)
    key_found r w h =
        let keys = kicker_key s field sign team margins in
        let v : (i : ℕ) × (i < 20) × (keys i ≡ r) × (0 ≤ r) = ⊎_elim (λ (z : r ≡ no_key). absurd (omega arith)) (λ (u : (i : ℕ) × (i < 20) × (keys i ≡ r) × (0 ≤ r)). u) w.found in
        let n = next_ranked keys (differ (λ key. key % 32) keys tells_number) 0 0 r (below_zero keys) (some_key keys v.0 v.1 (subst (λ (x : ℕ). x < no_key) (sym v.2) h)) w in
        let there : nearest s field sign team margins ≡ n.place = sym ranked_nearest ∙ n.is_ranked in
        let number : r % 32 ≡ n.place + 1 = ap (λ (x : ℕ). x % 32) (sym n.its) ∙ tells_number n.place n.within (subst (λ (x : ℕ). x < no_key) (sym n.its) h) in
        ap Some number ∙ sym (ap (λ (b : Bool). cond b (Some (n.place + 1)) None) (lt-ltb n.place 20 n.within)) ∙ sym (ap kicker_number there)

    -- and where there is none, nobody qualifies
    pub key_none : (r : ℕ) → Least 20 (kicker_key s field sign team margins) 0 r → no_key ≤ r → None ≡ kicker_number (nearest s field sign team margins)
    unfolding nearest ranked
    key_none r w h = sym (ap kicker_number nobody)
      where
        nobody : nearest s field sign team margins ≡ 20
        nobody =
            first_none 20
            (λ i. qualifies (distance_at s field sign team margins i) && eqb (rank 20 (λ j. qualifies (distance_at s field sign team margins j)) (λ j k. comes_before (distance_at s field sign team margins j) (distance_at s field sign team margins k) j k) i) 0)
            (λ i l. by_test (qualifies (distance_at s field sign team margins i))
            (λ t. absurd (omega (arith, w.below i l (omega arith), ltb-true (kicker_key s field sign team margins i) no_key (has_key_holds i l ∙ t))))
            (λ f. ap (λ (b : Bool). b && eqb (rank 20 (λ j. qualifies (distance_at s field sign team margins j)) (λ j k. comes_before (distance_at s field sign team margins j) (distance_at s field sign team margins k) j k) i) 0) f))
