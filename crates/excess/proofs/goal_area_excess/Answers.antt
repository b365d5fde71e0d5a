-- The keys are those of the order of naming, so the least ones are those of who is named first.
use Rattle.std.proofs.Common.{◌≡◌, ℕ, ◌+◌, ◌-◌, ◌%◌, ◌<◌, Bool, List, get_or, refl, sym, ap, ◌∙◌, subst, add-one, arith}
use Rattle.lists.specs.Ranking.{ranked}
use Rattle.lists.specs.Table.{table}
use Rattle.lists.proofs.Table.{turn, table_at}
use Rattle.game.specs.declared.Team.{Team}
use Rattle.keys.specs.Keys.{no_key, has_key, lower_key, keys_below, TellsNumber}
use Rattle.keys.proofs.LeastKey.{below_zero, next_ranked, Next, differ, below_20, least_told}
use Rattle.excess.specs.Excess.{allowed}
use Rattle.excess.specs.ExcessKeys.{SmallAt, naming_key}
use Rattle.excess.proofs.ExcessKeys.{listed_table, tells_number, first_named}
use Rattle.excess.proofs.goal_area_excess.Goals as goal
use Rattle.std.specs.Prelude.{Option}
use Rattle.game.specs.declared.Margins.{Margins}

abbrev at : List ℕ → ℕ → ℕ
at keys k = get_or keys k 0

-- the number of the player ranked k
abbrev number_ranked : List ℕ → ℕ → ℕ
number_ranked keys k = ranked 20 (has_key (at keys)) (lower_key (at keys)) k + 1

-- the array's keys are the definition's
these : (team : Team) (margins : List (Option Margins)) (prefer : Bool) (keys : List ℕ) → keys ≡ table 20 (naming_key team margins prefer) → (k : ℕ) → k < 20 → at keys k ≡ naming_key team margins prefer k
these team margins prefer keys e k l = ap (λ (s : List ℕ). at s k) e ∙ table_at 20 (naming_key team margins prefer) 0 k l

tells : (team : Team) (margins : List (Option Margins)) (prefer : Bool) (keys : List ℕ) → keys ≡ table 20 (naming_key team margins prefer) → ((k : ℕ) → k < 20 → SmallAt team margins k)
    → TellsNumber (λ key. 31 - key % 32) (at keys)
tells team margins prefer keys e small = tells_number team margins prefer (at keys) (these team margins prefer keys e) small

-- ---- a turn
pub loop-k-init : goal.loop-k-init
loop-k-init c = (refl, below_zero _)

-- the player of the turn's key
its : (c : goal.After-least_from-key)
    → Next (at c.naming_keys-keys.result) (differ (λ key. 31 - key % 32) (at c.naming_keys-keys.result) (tells c.args.team c.args.margins c.args.prefer_newcomers c.naming_keys-keys.result c.naming_keys-keys.ensures.value c.naming_keys-keys.ensures.by_index)) c.loop-k.k c.least_from-key.result
its c =
    let keys = at c.naming_keys-keys.result in
    let t : TellsNumber (λ key. 31 - key % 32) keys = tells c.args.team c.args.margins c.args.prefer_newcomers c.naming_keys-keys.result c.naming_keys-keys.ensures.value c.naming_keys-keys.ensures.by_index in
    next_ranked keys (differ (λ key. 31 - key % 32) keys t) c.loop-k.k c.loop-k.from c.least_from-key.result c.loop-k.invariant.1
    (omega (arith, c.loop-k-test.true, c.saturating_sub-count.ensures, c.key_count-inside.ensures)) (least_told 20 keys c.loop-k.from c.least_from-key.result c.least_from-key.ensures)

-- there are at most 20
pub bounds-numbers-k : goal.bounds-numbers-k
bounds-numbers-k c = omega (arith, c.loop-k-test.true, c.saturating_sub-count.ensures, c.key_count-inside.ensures, below_20 (at c.naming_keys-keys.result) no_key)

pub overflow_add-from : goal.overflow_add-from
overflow_add-from c = record { fits = omega (arith, (its c).some) }

pub loop-k-preserved : goal.loop-k-preserved
loop-k-preserved c =
    let keys = at c.naming_keys-keys.result in
    let t : TellsNumber (λ key. 31 - key % 32) keys = tells c.args.team c.args.margins c.args.prefer_newcomers c.naming_keys-keys.result c.naming_keys-keys.ensures.value c.naming_keys-keys.ensures.by_index in
    let n = its c in
    let number : 31 - c.least_from-key.result % 32 ≡ number_ranked c.naming_keys-keys.result c.loop-k.k =
    ap (λ (x : ℕ). 31 - x % 32) (sym n.its) ∙ t n.place n.within (subst (λ (x : ℕ). x < no_key) (sym n.its) n.some) ∙ ap (λ (i : ℕ). i + 1) (sym n.is_ranked)
    in
    (turn _ _ _ _ _ (omega (arith, bounds-numbers-k c)) c.loop-k.invariant.0 number, ap (keys_below keys) (add-one c.least_from-key.result) ∙ n.passed ∙ sym (add-one c.loop-k.k))

pub returns : goal.returns
returns c =
    let keys = c.naming_keys-keys.result in
    let done : c.saturating_sub-count.result ≡ c.loop-k.k = omega (arith, c.loop-k.auto.k-end, c.loop-k-test.false) in
    let all : c.loop-k.k ≡ keys_below (at keys) no_key - allowed = omega (arith, done, c.saturating_sub-count.ensures, c.key_count-inside.ensures) in
    ap (λ (n : ℕ). record { count = n; numbers = c.loop-k.numbers }) done
    ∙ listed_table (number_ranked keys) c.loop-k.k c.loop-k.numbers c.loop-k.invariant.0
    ∙ first_named c.args.team c.args.margins c.args.prefer_newcomers (at keys) (these c.args.team c.args.margins c.args.prefer_newcomers keys c.naming_keys-keys.ensures.value) c.naming_keys-keys.ensures.by_index c.loop-k.k all
