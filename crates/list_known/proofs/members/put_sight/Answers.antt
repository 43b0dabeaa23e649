use Prim.Native.Nat.{ℕ, ◌<◌}
use mathlib.Core.Path.{subst}
use Rattle.list_known.proofs.MemberLaws.{sight_fits, sight_yes}
use Rattle.list_known.proofs.members.put_sight.Goals as goal

pub returns : goal.returns
returns c =
    let d = c.put_family.ensures in
    let value = subst (λ (y : ℕ). c.in-Some.x < y) c.value_count.ensures c.if-value_count-x.false in
    record {
      room = d.0;
      full = λ l h F.
          d.1 _ _
          (sight_yes c.args.listing.now c.args.k l h c.args.p c.args.v c.in-Some.x c.if-listing-v.false value
          (c.sees_held.ensures l h (sight_fits c.args.listing.now c.args.k l h c.args.p c.args.v c.in-Some.x c.if-listing-v.false value) c.if-not-sees_held.false)) F;
    }
