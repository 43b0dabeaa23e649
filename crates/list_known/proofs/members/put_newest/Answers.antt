use Rattle.list_known.proofs.MemberLaws.{kept_same, newest_yes}
use Rattle.list_known.proofs.members.put_newest.Goals as goal

pub returns-then-not-family_held : goal.returns-then-not-family_held
returns-then-not-family_held c = kept_same _

pub returns : goal.returns
returns c = let d = c.put_family.ensures in record { room = d.0; full = λ l h F. d.1 _ _ (newest_yes c.args.listing.now c.args.k l h (c.family_held.ensures l h) c.if-not-family_held.false) F }
