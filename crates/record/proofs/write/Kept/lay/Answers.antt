-- `record::write::Kept::lay` meets its contract: group behind group.
-- Assumes nothing.
use Rattle.journal.specs.Bytes.{low, second}
use Rattle.record.specs.Items.{encode}
use Rattle.record.proofs.Laying.{givens_room_lem, moves_room, count_room, checks_room, record_laid}
use Rattle.record.proofs.write.Kept.lay.Goals as goal

pub lay_givens-moves-requires : goal.lay_givens-moves-requires
lay_givens-moves-requires c = givens_room_lem _ _ _ _ c.requires

pub lay_stored-count-requires : goal.lay_stored-count-requires
lay_stored-count-requires c = moves_room _ _ _ _ c.requires _ _ c.lay_givens-moves.ensures

pub lay_item-asked-requires : goal.lay_item-asked-requires
unfolding encode
lay_item-asked-requires c = count_room _ _ _ _ c.requires _ _ c.lay_givens-moves.ensures _ _ c.lay_stored-count.ensures

pub lay_stored-requires : goal.lay_stored-requires
unfolding encode low second
lay_stored-requires c = checks_room _ _ _ _ c.requires _ _ c.lay_givens-moves.ensures _ _ c.lay_stored-count.ensures _ _ c.lay_item-asked.ensures

pub returns : goal.returns
unfolding encode low second
returns c = record_laid _ _ _ _ c.requires _ _ c.lay_givens-moves.ensures _ _ c.lay_stored-count.ensures _ _ c.lay_item-asked.ensures _ c.lay_stored.ensures.1
