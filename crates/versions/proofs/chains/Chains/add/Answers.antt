use Rattle.std.proofs.Common.{get_or, set, ◌+◌}
use Rattle.versions.specs.Chain.{links}
use Rattle.versions.specs.Lent.{inside}
use Rattle.versions.proofs.Places.{listed-added, sound_added, sound-next, sound-number, sound-value}
use Rattle.versions.proofs.chains.Chains.add.Goals as goal

pub invariant_of-self : goal.invariant_of-self
invariant_of-self c = let s = c.args.self.now in record { good = sound-next (inside s) s.count s.room (get_or s.words.heads.now c.args.key 0) s.good }

pub invariant_of-self-2 : goal.invariant_of-self-2
invariant_of-self-2 c =
    let s = c.args.self.now in
    let x = get_or s.words.heads.now c.args.key 0 in
    record { good = sound-number (links s.words.heads.now (set s.words.next.now (s.count + 1) x) s.words.number.now s.words.value.now) s.count s.room c.args.number (sound-next (inside s) s.count s.room x s.good) }

pub invariant_of-self-3 : goal.invariant_of-self-3
invariant_of-self-3 c =
    let s = c.args.self.now in
    let x = get_or s.words.heads.now c.args.key 0 in
    let next = set s.words.next.now (s.count + 1) x in
    record {
      good = sound-value (links s.words.heads.now next (set s.words.number.now (s.count + 1) c.args.number) s.words.value.now) s.count s.room c.args.value
          (sound-number (links s.words.heads.now next s.words.number.now s.words.value.now) s.count s.room c.args.number (sound-next (inside s) s.count s.room x s.good));
    }

pub invariant_of-self-4 : goal.invariant_of-self-4
invariant_of-self-4 c = let s = c.args.self.now in record { good = sound_added (inside s) s.count s.room c.args.key c.args.number c.args.value s.good c.requires.key c.requires.room }

pub returns-clause-views : goal.returns-clause-views
returns-clause-views c = let s = c.args.self.now in listed-added (inside s) s.count s.room c.args.key c.args.number c.args.value s.good c.requires.key c.requires.room
