-- The tests tell whether the player is in the area and is a newcomer, and the calls give the margin's place in the total order.
use Rattle.std.proofs.Common.{◌≡◌, ℕ, ◌+◌, ◌-◌, ◌*◌, Bool, true, false, ◌&&◌, sym, ap, ◌∙◌, arith}
use lib.Ieee.{binary32, le, to_bits}
use Rattle.floats.specs.Arithmetic.{zero32}
use Rattle.floats.specs.Leaves.{total_key}
use Rattle.game.specs.declared.Margins.{Margins}
use Rattle.game.specs.declared.Player.{Player}
use Rattle.game.specs.Game.{is_unpenalized}
use Rattle.excess.specs.Excess.{own_margin, is_in_goal_area}
use Rattle.excess.specs.ExcessKeys.{margin_order, inside_key}
use Rattle.excess.proofs.ExcessKeys.{absent, no_key_holds, its_key}
use Rattle.excess.proofs.naming_key.Goals as goal
use Rattle.std.specs.Prelude.{Option, Some}

-- whether the player is in the area
area : (p : Player) (m : Option Margins) (x : Margins) (u b : Bool) → m ≡ Some x → u ≡ is_unpenalized p.penalty → (u && le zero32 x.own_goal_area) ≡ b → is_in_goal_area p m ≡ b
unfolding is_in_goal_area
area p m x u b known e t =
    ap (λ (y : Option Margins). is_unpenalized p.penalty && le zero32 (own_margin y)) known ∙ ap (λ (y : Bool). y && le zero32 x.own_goal_area) (sym e) ∙ t

-- the margin's place in the total order
order : (m : Option Margins) (x : Margins) (bits r : ℕ) → m ≡ Some x → bits ≡ to_bits binary32 x.own_goal_area → r ≡ total_key bits → r ≡ margin_order m
order m x bits r known b e = e ∙ ap total_key b ∙ ap margin_order (sym known)

early : (x i : ℕ) → x * 32 + (30 - i) ≡ inside_key true x i
early x i = omega arith

pub returns-clause-value : goal.returns-clause-value
returns-clause-value c =
    (no_key_holds c.args.prefer_newcomers c.args.player c.args.margins c.args.i
    (area _ _ _ _ false c.in-Some.is c.is_unpenalized-unpenalized.ensures c.if-unpenalized-margin.false)).0

pub returns-in_default-clause-value : goal.returns-in_default-clause-value
returns-in_default-clause-value c = (no_key_holds c.args.prefer_newcomers c.args.player c.args.margins c.args.i (absent c.args.player c.args.margins c.in_default.is)).0

pub returns-in_default-clause-small : goal.returns-in_default-clause-small
returns-in_default-clause-small c = (no_key_holds c.args.prefer_newcomers c.args.player c.args.margins c.args.i (absent c.args.player c.args.margins c.in_default.is)).1

pub returns-then-prefer_newcomers-player-clause-value : goal.returns-then-prefer_newcomers-player-clause-value
returns-then-prefer_newcomers-player-clause-value c =
    early c.total_key-order.result c.args.i
    ∙ (its_key c.args.prefer_newcomers c.args.player c.args.margins c.args.i c.total_key-order.result true
    (area _ _ _ _ true c.in-Some.is c.is_unpenalized-unpenalized.ensures c.if-unpenalized-margin.true) c.if-prefer_newcomers-player.true
    (order _ _ _ _ c.in-Some.is c.bits.ensures c.total_key-order.ensures) (omega arith)).0

pub returns-then-unpenalized-margin-clause-value : goal.returns-then-unpenalized-margin-clause-value
returns-then-unpenalized-margin-clause-value c =
    (its_key c.args.prefer_newcomers c.args.player c.args.margins c.args.i c.total_key-order.result false
    (area _ _ _ _ true c.in-Some.is c.is_unpenalized-unpenalized.ensures c.if-unpenalized-margin.true) c.if-prefer_newcomers-player.false
    (order _ _ _ _ c.in-Some.is c.bits.ensures c.total_key-order.ensures) (omega arith)).0

pub returns-clause-small : goal.returns-clause-small
returns-clause-small c =
    (no_key_holds c.args.prefer_newcomers c.args.player c.args.margins c.args.i
    (area _ _ _ _ false c.in-Some.is c.is_unpenalized-unpenalized.ensures c.if-unpenalized-margin.false)).1
