-- A put that its state and its parcel refuse.
use Rattle.std.proofs.Common.{ℕ, List, refl}
use Rattle.ss_device.specs.declared.disk.Disk.{Ghosts}
use Rattle.ss_model.specs.State.{State}
use Rattle.ss_model.specs.Lawful.{IsPutRefusal, IsFitting, IsFirstFault}
use Rattle.ss_model.specs.declared.call.PutReply.{PutReply}
use Rattle.ss_model.specs.declared.call.PutReply.TheVariants as put
use Rattle.ss_model.specs.declared.call.Call.TheVariants as call
use Rattle.ss_model.specs.declared.call.Answer.TheVariants as answer
use Rattle.ss_core.specs.declared.split_core.SplitCore.{SplitCore}
use Rattle.ss_core.specs.Calls.{Steps, Makes}
use Rattle.ss_core.specs.Calls.{untouched}
use Rattle.ss_core.specs.Replies.{IsRefused, IsDueTo, Puts}
use Rattle.ss_core.specs.StandsFor.{Doubt, StandsFor}
use Rattle.ss_core.proofs.Idle.{IsIdle, idle}
use Rattle.ss_core.proofs.Made.{idle_makes}

none : IsIdle untouched
none = record { settles = refl; stands = refl; roomy = refl }

-- its step leaves all as it was
module _ {D : Type 0} (disk : Ghosts D) (core : SplitCore D disk) (s : State) (doubt : Doubt) (v : ℕ) (pairs : List (List ℕ × List ℕ)) (stands : StandsFor core s doubt) where
  is_refused : (r : PutReply) → IsPutRefusal s v pairs r → Steps core core s doubt (call.Put v pairs) (answer.Put r)
  is_refused put.BadView h = idle disk core core s doubt (call.Put v pairs) (answer.Put put.BadView) refl refl none stands h stands
  is_refused (put.TooMany n) h = idle disk core core s doubt (call.Put v pairs) (answer.Put (put.TooMany n)) refl refl none stands h stands
  is_refused (put.TooBig n) h = idle disk core core s doubt (call.Put v pairs) (answer.Put (put.TooBig n)) refl refl none stands h stands
  is_refused (put.TooLarge i) h = idle disk core core s doubt (call.Put v pairs) (answer.Put (put.TooLarge i)) refl refl none stands h stands
  is_refused (put.UnknownHash i) h = idle disk core core s doubt (call.Put v pairs) (answer.Put (put.UnknownHash i)) refl refl none stands h stands
  is_refused (put.Mismatch i) h = idle disk core core s doubt (call.Put v pairs) (answer.Put (put.Mismatch i)) refl refl none stands h stands
  is_refused (put.Malformed i kind at) h = idle disk core core s doubt (call.Put v pairs) (answer.Put (put.Malformed i kind at)) refl refl none stands h stands
  is_refused (put.TableFull rows) h = absurd h.1.fault
  is_refused (put.LogFull file need room) h = absurd h.1.fault
  is_refused put.DiskFault h = absurd h.1.fault
  is_refused put.NoMemory h = absurd h.1.fault
  is_refused (put.Stored new) h = absurd h.1.fault

-- over any disk its answer comes of nothing done
module _ {D : Type 0} (disk : Ghosts D) (core : SplitCore D disk) (v : ℕ) (pairs : List (List ℕ × List ℕ)) where
  refused : (r : PutReply) → IsRefused core v pairs r → Makes core core (call.Put v pairs) (answer.Put r) × IsDueTo core core v pairs r
  refused put.BadView is = (idle_makes disk core (call.Put v pairs) (answer.Put put.BadView) refl tt refl refl, (refl, is))
  refused (put.TooMany n) is = (idle_makes disk core (call.Put v pairs) (answer.Put (put.TooMany n)) refl tt refl refl, (refl, is))
  refused (put.TooBig n) is = (idle_makes disk core (call.Put v pairs) (answer.Put (put.TooBig n)) refl tt refl refl, (refl, is))
  refused (put.TooLarge i) is = (idle_makes disk core (call.Put v pairs) (answer.Put (put.TooLarge i)) refl tt refl refl, (refl, is))
  refused (put.UnknownHash i) is = (idle_makes disk core (call.Put v pairs) (answer.Put (put.UnknownHash i)) refl tt refl refl, (refl, is))
  refused (put.Mismatch i) is = (idle_makes disk core (call.Put v pairs) (answer.Put (put.Mismatch i)) refl tt refl refl, (refl, is))
  refused (put.Malformed i kind at) is = (idle_makes disk core (call.Put v pairs) (answer.Put (put.Malformed i kind at)) refl tt refl refl, (refl, is))
  refused put.NoMemory is = absurd is.fault
  refused (put.TableFull rows) is = absurd is.fault
  refused (put.LogFull file need room) is = absurd is.fault
  refused put.DiskFault is = absurd is.fault
  refused (put.Stored new) is = absurd is.fault

  pub refused_puts : (r : PutReply) → ((s : State) (doubt : Doubt) → StandsFor core s doubt → IsPutRefusal s v pairs r) → IsRefused core v pairs r → Puts core core v pairs r
  refused_puts r decides is = record { told = λ _ s doubt stands. is_refused disk core s doubt v pairs stands r (decides s doubt stands); made = (refused r is).0; due = (refused r is).1; views = refl }

-- a faulty pair refuses a parcel that fits
pub refused_by_fault : (s : State) (v : ℕ) (pairs : List (List ℕ × List ℕ)) (r : PutReply) → IsFitting s v pairs → IsFirstFault pairs r → IsPutRefusal s v pairs r
refused_by_fault s v pairs put.NoMemory fits h = absurd h.fault
refused_by_fault s v pairs (put.Stored new) fits h = absurd h.fault
refused_by_fault s v pairs (put.TableFull rows) fits h = absurd h.fault
refused_by_fault s v pairs (put.LogFull file need room) fits h = absurd h.fault
refused_by_fault s v pairs put.DiskFault fits h = absurd h.fault
refused_by_fault s v pairs put.BadView fits h = absurd h.fault
refused_by_fault s v pairs (put.TooMany n) fits h = absurd h.fault
refused_by_fault s v pairs (put.TooBig n) fits h = absurd h.fault
refused_by_fault s v pairs (put.TooLarge i) fits h = (fits, h)
refused_by_fault s v pairs (put.UnknownHash i) fits h = (fits, h)
refused_by_fault s v pairs (put.Mismatch i) fits h = (fits, h)
refused_by_fault s v pairs (put.Malformed i kind at) fits h = (fits, h)

-- over any disk
pub refused_anywhere : {D : Type 0} (disk : Ghosts D) (core : SplitCore D disk) (v : ℕ) (pairs : List (List ℕ × List ℕ)) (r : PutReply) → IsFirstFault pairs r → IsRefused core v pairs r
refused_anywhere disk core v pairs put.BadView h = absurd h.fault
refused_anywhere disk core v pairs (put.TooMany n) h = absurd h.fault
refused_anywhere disk core v pairs (put.TooBig n) h = absurd h.fault
refused_anywhere disk core v pairs put.NoMemory h = h
refused_anywhere disk core v pairs (put.Stored new) h = h
refused_anywhere disk core v pairs (put.TableFull rows) h = h
refused_anywhere disk core v pairs (put.LogFull file need room) h = h
refused_anywhere disk core v pairs put.DiskFault h = h
refused_anywhere disk core v pairs (put.TooLarge i) h = h
refused_anywhere disk core v pairs (put.UnknownHash i) h = h
refused_anywhere disk core v pairs (put.Mismatch i) h = h
refused_anywhere disk core v pairs (put.Malformed i kind at) h = h
