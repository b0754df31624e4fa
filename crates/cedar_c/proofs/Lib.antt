mod OneReport
mod Stored
mod ReportPlaces
mod SlotCrossing
