mod BeginningTexts
mod BegunNodes
mod Crashes
mod Rebuilt
mod ReceivedReading
mod RecordTexts
mod Replaying
