-- The keys of the order of naming: who has one is in the goal area, and the lower key is named first. Assumes nothing.
use mathlib.Core.Path.{◌≡◌, refl, sym, ap, ap₂, subst, ◌∙◌}
use mathlib.Core.Bool.{Bool, true, false, ◌&&◌, cond, and-false, true≢false}
use mathlib.Core.List.{List, ◌++◌}
use Prim.Native.Nat.{ℕ, ◌+◌, ◌-◌, ◌%◌, ◌<◌, compare}
use native.Mathlib.Omega.{arith}
use lib.Dec.{ltb}
use lib.Ieee.{Float, nan, inf, fin, le}
use lib.ListN.{drop, replicate}
use borrow.Author.Tests.{ltb-true, lt-ltb, le-ltb}
use Rattle.lists.specs.Put.{fronted}
use Rattle.lists.specs.Table.{table, filled}
use Rattle.lists.proofs.Table.{length_table, table_same}
use Rattle.floats.specs.Arithmetic.{zero32}
use Rattle.game.specs.declared.Team.{Team}
use Rattle.game.specs.declared.Player.{Player}
use Rattle.game.specs.Game.{is_unpenalized}
use Rattle.game.specs.declared.PlayerList.{PlayerList}
use Rattle.game.specs.Players.{player_at, margins_at, listed}
use Rattle.lists.specs.Ranking.{and_then, is_less, ranked}
use Rattle.keys.specs.Keys.{no_key, has_key, lower_key, keys_below, TellsNumber}
use Rattle.excess.specs.Excess.{newcomer_first, own_margin, is_in_goal_area, is_newcomer, in_goal_area, inside, named_before, named, allowed, goal_area_excess}
use Rattle.excess.specs.ExcessKeys.{margin_order, Small, SmallAt, inside_key, player_key, naming_key}
use Rattle.lists.proofs.Counting.{count_same}
use Rattle.lists.proofs.Ranking.{lexical, ranked_same}
use Rattle.lists.proofs.Bools.{same_test, by_test}
use Rattle.std.specs.Prelude.{Option, None}
use Rattle.game.specs.declared.Margins.{Margins}

-- a counted array by its parts
abbrev counting : ℕ → List ℕ → PlayerList
counting n l = record { count = n; numbers = l }

-- a counted array whose first n places are filled by f
pub listed_table : (f : ℕ → ℕ) (n : ℕ) (numbers : List ℕ) → numbers ≡ filled f (replicate 20 0) n → ◌≡◌ {A = PlayerList} (record { count = n; numbers = numbers }) (listed (table n f))
unfolding listed fronted
listed_table f n numbers e =
    ap₂ counting (sym (length_table n f)) (e ∙ ap (λ (k : ℕ). table n f ++ drop k (replicate 20 0)) (sym (length_table n f)))

-- ---- a key by its parts
-- a key tells the number
parts_tell : (a : Bool) (x i : ℕ) → i < 20 → 31 - inside_key a x i % 32 ≡ i + 1
parts_tell true x i l = omega arith
parts_tell false x i l = omega arith

-- a key is one
parts_small : (a : Bool) (x i : ℕ) → x < 0x1_0000_0000 → i < 20 → inside_key a x i < no_key
parts_small true x i h l = omega arith
parts_small false x i h l = omega arith

-- a newcomer's key is lower, then that of the smaller margin, then that of the higher number
parts_order : (a b : Bool) (x y i j : ℕ) → x < 0x1_0000_0000 → y < 0x1_0000_0000 → i < 20 → j < 20
    → ltb (inside_key a x i) (inside_key b y j) ≡ is_less (and_then (newcomer_first a b) (and_then (compare x y) (compare j i)))
parts_order true true x y i j p q l m = lexical (inside_key true x i) (inside_key true y j) x y j i (λ h. omega arith) (λ h. omega arith) (λ e h. omega arith) (λ e h. omega arith)
parts_order true false x y i j p q l m = lt-ltb (inside_key true x i) (inside_key false y j) (omega arith)
parts_order false true x y i j p q l m = le-ltb (inside_key false x i) (inside_key true y j) (omega arith)
parts_order false false x y i j p q l m = lexical (inside_key false x i) (inside_key false y j) x y j i (λ h. omega arith) (λ h. omega arith) (λ e h. omega arith) (λ e h. omega arith)

-- ---- the key of a player
le_nan : (x : Float) → le x nan ≡ false
unfolding le
le_nan nan = refl
le_nan (inf s) = refl
le_nan (fin s m e) = refl

-- without margins nobody is in the area
pub absent : (p : Player) (m : Option Margins) → m ≡ None → is_in_goal_area p m ≡ false
unfolding is_in_goal_area
absent p m e = ap (λ (x : Option Margins). is_unpenalized p.penalty && le zero32 (own_margin x)) e ∙ ap (λ (b : Bool). is_unpenalized p.penalty && b) (le_nan zero32) ∙ and-false (is_unpenalized p.penalty)

-- who is not in the area has none
pub no_key_holds : (prefer : Bool) (p : Player) (m : Option Margins) (i : ℕ) → is_in_goal_area p m ≡ false → (no_key ≡ player_key prefer p m i) × Small p m
unfolding player_key
no_key_holds prefer p m i f =
    (sym (ap (λ (b : Bool). cond b (inside_key (is_newcomer prefer p) (margin_order m) i) no_key) f), λ (t : is_in_goal_area p m ≡ true). absurd (true≢false (sym t ∙ f)))

-- and who is has that of its parts
pub its_key : (prefer : Bool) (p : Player) (m : Option Margins) (i x : ℕ) (newcomer : Bool) → is_in_goal_area p m ≡ true → is_newcomer prefer p ≡ newcomer → x ≡ margin_order m → x < 0x1_0000_0000
    → (inside_key newcomer x i ≡ player_key prefer p m i) × Small p m
unfolding player_key
its_key prefer p m i x newcomer t e o h = (
  ap₂ (λ (b : Bool) (y : ℕ). inside_key b y i) (sym e) o ∙ sym (ap (λ (b : Bool). cond b (inside_key (is_newcomer prefer p) (margin_order m) i) no_key) t),
  λ (u : is_in_goal_area p m ≡ true). subst (λ (y : ℕ). y < 0x1_0000_0000) o h,
)

-- ---- the keys of a team
module _ (team : Team) (margins : List (Option Margins)) (prefer : Bool) (keys : ℕ → ℕ)
    (these : (k : ℕ) → k < 20 → keys k ≡ naming_key team margins prefer k)
    (small : (k : ℕ) → k < 20 → SmallAt team margins k)
  where
    key_in : (i : ℕ) → i < 20 → in_goal_area team margins i ≡ true → keys i ≡ inside_key (is_newcomer prefer (player_at team i)) (margin_order (margins_at margins i)) i
    unfolding player_key in_goal_area
    key_in i l t = these i l ∙ ap (λ (b : Bool). cond b (inside_key (is_newcomer prefer (player_at team i)) (margin_order (margins_at margins i)) i) no_key) t

    key_out : (i : ℕ) → i < 20 → in_goal_area team margins i ≡ false → keys i ≡ no_key
    unfolding player_key in_goal_area
    key_out i l f = these i l ∙ ap (λ (b : Bool). cond b (inside_key (is_newcomer prefer (player_at team i)) (margin_order (margins_at margins i)) i) no_key) f

    in_32 : (i : ℕ) → i < 20 → in_goal_area team margins i ≡ true → margin_order (margins_at margins i) < 0x1_0000_0000
    unfolding in_goal_area
    in_32 i l t = small i l t

    has_key_holds : (i : ℕ) → i < 20 → has_key keys i ≡ in_goal_area team margins i
    has_key_holds i l =
        same_test (has_key keys i) (in_goal_area team margins i)
        (λ t. by_test (in_goal_area team margins i) (λ u. u) (λ u. absurd (omega (arith, ltb-true (keys i) no_key t, key_out i l u))))
        (λ t. lt-ltb (keys i) no_key (subst (λ (x : ℕ). x < no_key) (sym (key_in i l t)) (parts_small (is_newcomer prefer (player_at team i)) (margin_order (margins_at margins i)) i (in_32 i l t) l)))

    lower_key_holds : (i j : ℕ) → i < 20 → j < 20 → in_goal_area team margins i ≡ true → in_goal_area team margins j ≡ true → lower_key keys i j ≡ named_before team margins prefer i j
    unfolding named_before
    lower_key_holds i j l m s t =
        ap₂ ltb (key_in i l s) (key_in j m t)
        ∙ parts_order (is_newcomer prefer (player_at team i)) (is_newcomer prefer (player_at team j)) (margin_order (margins_at margins i)) (margin_order (margins_at margins j)) i j (in_32 i l s) (in_32 j m t) l m

    pub tells_number : TellsNumber (λ key. 31 - key % 32) keys
    tells_number i l h =
        by_test (in_goal_area team margins i)
        (λ t. ap (λ (x : ℕ). 31 - x % 32) (key_in i l t) ∙ parts_tell (is_newcomer prefer (player_at team i)) (margin_order (margins_at margins i)) i l)
        (λ f. absurd (omega (arith, key_out i l f)))

    counts_inside : keys_below keys no_key ≡ inside team margins
    unfolding keys_below inside
    counts_inside = count_same 20 (has_key keys) (in_goal_area team margins) has_key_holds

    ranked_named : (k : ℕ) → ranked 20 (has_key keys) (lower_key keys) k ≡ named team margins prefer k
    unfolding named
    ranked_named k =
        ranked_same 20 (has_key keys) (in_goal_area team margins) (lower_key keys) (named_before team margins prefer) k has_key_holds
        (λ i j l m s t. lower_key_holds i j l m (sym (has_key_holds i l) ∙ s) (sym (has_key_holds j m) ∙ t))

    -- the first of all players with a key but the allowed ones
    pub first_named : (n : ℕ) → n ≡ keys_below keys no_key - allowed → listed (table n (λ k. ranked 20 (has_key keys) (lower_key keys) k + 1)) ≡ goal_area_excess team margins prefer
    unfolding goal_area_excess
    first_named n e =
        ap listed
        (ap (λ (m : ℕ). table m (λ k. ranked 20 (has_key keys) (lower_key keys) k + 1)) (e ∙ ap (λ (m : ℕ). m - allowed) counts_inside)
        ∙ table_same (inside team margins - allowed) (λ k. ranked 20 (has_key keys) (lower_key keys) k + 1) (λ k. named team margins prefer k + 1) (λ k l. ap (λ (i : ℕ). i + 1) (ranked_named k)))
