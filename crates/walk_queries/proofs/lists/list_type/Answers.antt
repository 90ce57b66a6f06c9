-- `walk_queries::lists::list_type` meets its contract.
-- Assumes nothing.
use Rattle.walk_queries.proofs.ListLaws.{type_listed, type_unlisted}
use Rattle.walk_queries.proofs.NoteLaws.{found_of, type_named, noted_of}
use Rattle.index.proofs.Held.{stays_same, stays_store}
use Rattle.index.specs.Cells.{cell, type_list, type_offset}
use Rattle.index_entry.specs.Types.{TypeAt}
use Rattle.walk_queries.specs.Made.{Sole}
use Rattle.walk_queries.proofs.lists.list_type.Goals as goal

pub returns-in-Record-clause-made : goal.returns-in-Record-clause-made
returns-in-Record-clause-made c = record { go = λ f work₀ K S l L. type_listed K l L (rw (← c.get-offset.ensures) c.type_at.ensures) c.in-Record.is c.names.ensures c.list_at.ensures.made }

pub returns-in-Entity-clause-stays : goal.returns-in-Entity-clause-stays
returns-in-Entity-clause-stays c = stays_store _ type_list c.args.t c.unwrap_or.result (stays_same c.args.records.now) c.set.ensures

pub returns-in-Entity-clause-made : goal.returns-in-Entity-clause-made
returns-in-Entity-clause-made c = record {
  go = λ f work₀ K S l L.
      type_named _ K S l L (rw (← c.get-offset.ensures) c.type_at.ensures) c.in-Entity.is (found_of c.args.records.now c.view.result c.view.ensures c.find-e.ensures) c.unwrap_or.ensures c.set.ensures.memory;
}

pub returns-in_default : goal.returns-in_default
returns-in_default c = record {
  stays = stays_store _ type_list c.args.t c.note_of-note.result (stays_same c.args.records.now) c.set-in_default.ensures;
  made = record {
    go = λ f work₀ K S l L.
        let T : TypeAt c.args.records.now.file.now (cell c.args.records.now.work.now c.args.records.now.sizes.rows type_offset c.args.t) c.type_at.result = rw (← c.get-offset.ensures) c.type_at.ensures in
        let sole : Sole c.type_at.result = (c.in_default.not-Entity, c.in_default.not-Record) in
        type_unlisted K l L T sole ((noted_of c.args.records.now c.view-in_default.result c.view-in_default.ensures c.note_of-note.ensures).go f work₀ c.args.t c.args.next K l L T sole) c.set-in_default.ensures.memory;
  };
}
