-- A tree may cross threads.
use denote.Param.Send.{IsSend, sendable}
use denote.Model.Local.{Parts, rows}
use denote.Model.Marks.{tied_send}
use denote.Model.Goals.{send, part_has, has_of}
use Rattle.std.proofs.Crossing.{crosses}
use Rattle.prefix_tree.specs.declared.side.Side.TheDeep.{the_members, member-Side}
use Rattle.prefix_tree.specs.contracts.side.Side as Side
use Rattle.prefix_tree.specs.contracts.side.Side.TheKnot as knot
use Rattle.prefix_tree.specs.contracts.tree.Tree as Tree

keeps : (p : Parts knot.frame) → ((j : the_members) → IsSend (rows knot.frame p j)) → (i : the_members) → IsSend (rows knot.frame (knot.step p) i)
keeps p all member-Side = has_of knot.frame send (knot.step p) member-Side (part_has send (knot.view-Side p) (search (crosses, sendable, all) depth 40))

-- a side reaches itself, so that its fields alone do not tell it
side_send : IsSend Side.the_row
side_send = tied_send knot.frame knot.step knot.sizes keeps member-Side

pub tree_send : IsSend Tree.the_row
tree_send = search (crosses, sendable, side_send) depth 40
